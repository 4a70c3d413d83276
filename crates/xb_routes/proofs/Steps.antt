-- What two steps give, and what stops the first or the second.
use Rattle.std.proofs.Common.{◌≡◌, Option, Some, None, Result, Ok, Err, refl, inl, inr, ◌⊎◌}
use Rattle.xb_routes.specs.Steps.{and_then, or_fault}

module _ {F : Type 0} (A B : Type 0) where
  pub both : (r : Result A F) (next : A → Result B F) (y : B) → and_then r next ≡ Ok y → (x : A) × (r ≡ Ok x) × (next x ≡ Ok y)
  both (Err f) next y e = absurd (cc)
  both (Ok x) next y e = (x, refl, e)

  pub either : (r : Result A F) (next : A → Result B F) (f : F) → and_then r next ≡ Err f
      → (r ≡ Err f) ⊎ ((x : A) × (r ≡ Ok x) × (next x ≡ Err f))
  either (Err g) next f e = inl (cc)
  either (Ok x) next f e = inr (x, refl, e)

  pub both-option : (g : F) (o : Option A) (next : A → Result B F) (y : B) → or_fault g o next ≡ Ok y → (x : A) × (o ≡ Some x) × (next x ≡ Ok y)
  both-option g None next y e = absurd (cc)
  both-option g (Some x) next y e = (x, refl, e)

  pub either-option : (g : F) (o : Option A) (next : A → Result B F) (f : F) → or_fault g o next ≡ Err f
      → ((o ≡ None) × (f ≡ g)) ⊎ ((x : A) × (o ≡ Some x) × (next x ≡ Err f))
  either-option g None next f e = inl (refl, cc)
  either-option g (Some x) next f e = inr (x, refl, e)
