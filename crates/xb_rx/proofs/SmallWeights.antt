-- The weights, by computation.
use Rattle.std.proofs.Common.{◌≡◌, ℕ, zero, suc, ◌≤◌, Bool, true, false, ◌&&◌, List, [], ◌∷◌, get_or, arith, refl, ℤ, pos, leb, unsigned_abs}
use Rattle.std.specs.List.{list_all}
use Rattle.std.proofs.lemmas.Bool.{false≢true, leb-true}
use Rattle.xb_rx.specs.Weights.{weight_at, weights}

and-both : (b c : Bool) → (b && c) ≡ true → (b ≡ true) × (c ≡ true)
and-both true c e = (refl, e)
and-both false c e = absurd (false≢true e)

-- none is greater than the one in the middle
abbrev is_small : ℤ → Bool
is_small x = leb (unsigned_abs x) 9245

small_at : (xs : List ℤ) → list_all is_small xs ≡ true → (n : ℕ) → unsigned_abs (get_or xs n (pos 0)) ≤ 9245
small_at [] all n = omega arith
small_at (x ∷ xs) all zero = leb-true _ _ (and-both (is_small x) (list_all is_small xs) all).0
small_at (x ∷ xs) all (suc n) = small_at xs (and-both (is_small x) (list_all is_small xs) all).1 n

pub weight-small : (place : ℕ) → unsigned_abs (weight_at place) ≤ 9245
unfolding weights
weight-small place = small_at weights refl place
