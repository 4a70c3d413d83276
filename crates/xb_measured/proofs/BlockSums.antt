-- The sums over a block.
use Rattle.std.proofs.Common.{◌≡◌, ◌∙◌, ℕ, ◌+◌, ◌*◌, ◌<◌, ◌≤◌, ap, arith, refl, ℤ, ◌+ℤ◌, unsigned_abs, to_z, of_z}
use Rattle.std.specs.Int.{w64}
use Rattle.std.proofs.lemmas.Int.{to_z-of_z, fits_signed_from_abs}
use Rattle.xb_ear.proofs.Sums.{bound-more}

-- none wraps
pub sum-is : (i : ℕ) (sum p : ℤ) → unsigned_abs sum ≤ 327680000 * i → unsigned_abs p ≤ 327680000 → i < 160
    → to_z w64 (of_z w64 (sum +ℤ to_z w64 (of_z w64 p))) ≡ sum +ℤ p
sum-is i sum p so_far one below =
    let all : unsigned_abs (sum +ℤ p) ≤ 327680000 * (i + 1) = bound-more i sum p (sum +ℤ p) so_far one refl in
    ap (λ (z : ℤ). to_z w64 (of_z w64 (sum +ℤ z))) (to_z-of_z w64 p (fits_signed_from_abs w64 p (omega arith)))
    ∙ to_z-of_z w64 (sum +ℤ p) (fits_signed_from_abs w64 (sum +ℤ p) (omega arith))
