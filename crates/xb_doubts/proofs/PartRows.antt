-- How many attempts are counted.
use Rattle.std.proofs.Common.{◌≡◌, ℕ, arith, min, nat_le}
use Rattle.std.proofs.lemmas.Bool.Decides.{nat_tests}

-- up to ten are counted, which is enough to tell whether there are ten
pub rings_known : (rings : ℕ) → nat_le 10 (min rings 10) ≡ nat_le 10 rings
rings_known rings = grind (arith, nat_tests)
