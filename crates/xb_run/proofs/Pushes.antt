-- One element more.
use Rattle.std.proofs.Common.{◌≡◌, ℕ, zero, suc, ◌+◌, ◌<◌, List, [], ◌∷◌, ◌++◌, length, length-append, get_or, refl, sym, subst, ⊎_elim, arith}
use Rattle.std.proofs.lemmas.Bool.{cases_eq}

module _ {X : Type 0} where
  pub push-here : (ys : List X) (z d : X) → get_or (ys ++ z ∷ []) (length ys) d ≡ z
  push-here [] z d = refl
  push-here (y ∷ ys) z d = push-here ys z d

  pub push-before : (ys : List X) (z : X) (i : ℕ) (d : X) → i < length ys → get_or (ys ++ z ∷ []) i d ≡ get_or ys i d
  push-before [] z i d h = absurd (omega arith)
  push-before (y ∷ ys) z zero d h = refl
  push-before (y ∷ ys) z (suc i) d h = push-before ys z i d (omega arith)

  -- what holds of all elements, and of one more
  pub each-push : (Q : ℕ → X → Type 0) (ys : List X) (z : X) → Q (length ys) z → ((i : ℕ) (d : X) → i < length ys → Q i (get_or ys i d)) → (i : ℕ) (d : X) → i < length (ys ++ z ∷ []) → Q i (get_or (ys ++ z ∷ []) i d)
  each-push Q ys z here before i d h =
      let within : i < length ys + 1 = subst (λ n. i < n) (length-append ys (z ∷ [])) h in
      ⊎_elim
      (λ same. subst (λ m. Q m (get_or (ys ++ z ∷ []) m d)) (sym same) (subst (Q (length ys)) (sym (push-here ys z d)) here))
      (λ other. let less : i < length ys = omega (arith, within, other) in subst (Q i) (sym (push-before ys z i d less)) (before i d less))
      (cases_eq i (length ys))
