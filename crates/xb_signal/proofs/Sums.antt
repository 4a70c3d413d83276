-- Sums of numbers of 32 bits.
use Rattle.std.proofs.Common.{◌≡◌, ◌∙◌, ◌≤◌, unsigned_abs, ℕ, ◌+◌, ap, arith, ℤ, ◌+ℤ◌, FitsSigned, to_z, of_z}
use Rattle.std.specs.Int.{w32}
use Rattle.std.proofs.lemmas.Int.{ints, to_z-of_z}

-- a sum of two numbers of 32 bits that has 32 bits itself
pub bits-sum : (x y : ℤ) → FitsSigned w32 x → FitsSigned w32 y → FitsSigned w32 (x +ℤ y)
    → to_z w32 (of_z w32 (to_z w32 (of_z w32 x) +ℤ to_z w32 (of_z w32 y))) ≡ x +ℤ y
bits-sum x y fits_x fits_y fits_sum =
    ap (λ (z : ℤ). to_z w32 (of_z w32 (z +ℤ to_z w32 (of_z w32 y)))) (to_z-of_z w32 x fits_x)
    ∙ ap (λ (z : ℤ). to_z w32 (of_z w32 (x +ℤ z))) (to_z-of_z w32 y fits_y)
    ∙ to_z-of_z w32 (x +ℤ y) fits_sum

-- how great a sum is at most
pub sum-small : (x y : ℤ) (a b : ℕ) → unsigned_abs x ≤ a → unsigned_abs y ≤ b → unsigned_abs (x +ℤ y) ≤ a + b
sum-small x y a b small_x small_y = omega (arith, ints)
