-- Lists in which one element after another is replaced.
use Rattle.std.proofs.Common.{◌≡◌, ◌≢◌, ℕ, ◌+◌, ◌<◌, ◌≤◌, List, length, length-set, get_or, set, sym, ◌∙◌, subst, ⊎_elim, arith, get_or-set_same, get_or-set_other}
use Rattle.std.proofs.lemmas.Bool.{cases_eq}
use Rattle.std.proofs.lemmas.List.{get_or_read}

module _ {X : Type 0} (xs ys : List X) (j : ℕ) (o z : X) (len : length ys ≡ length xs) (below : j < length ys) where
  -- the elements are related to those at first, also after one step of one of them
  pub related-set : (R : X → X → Type 0) → ((a b c : X) → R a b → R b c → R a c) → ((i : ℕ) (d : X) → i < length xs → R (get_or xs i d) (get_or ys i d))
      → o ≡ get_or ys j o → R o z → (length (set ys j z) ≡ length xs) × ((i : ℕ) (d : X) → i < length xs → R (get_or xs i d) (get_or (set ys j z) i d))
  related-set R trans rel read step = (
    length-set ys j z ∙ len,
    λ i d h.
        ⊎_elim
        (λ same.
        let before : R (get_or xs j d) o = subst (R (get_or xs j d)) (sym (get_or_read ys j o below read d)) (rel j d (subst (λ n. j < n) len below)) in
        subst (λ m. R (get_or xs m d) (get_or (set ys j z) m d)) (sym same) (subst (R (get_or xs j d)) (sym (get_or-set_same ys j z d below)) (trans (get_or xs j d) o z before step)))
        (λ other. subst (R (get_or xs i d)) (sym (get_or-set_other ys j i z d other)) (rel i d h))
        (cases_eq i j),
  )

  -- those after it are as they were
  pub same-set : ((i : ℕ) (d : X) → j ≤ i → get_or ys i d ≡ get_or xs i d) → (i : ℕ) (d : X) → j + 1 ≤ i → get_or (set ys j z) i d ≡ get_or xs i d
  same-set same i d h =
      let other : i ≢ j = λ e. absurd (omega (arith, e)) in
      get_or-set_other ys j i z d other ∙ same i d (omega arith)

  -- what holds of those before it and of it
  pub upto-set : (Q : ℕ → X → Type 0) → Q j z → ((i : ℕ) (d : X) → i < j → Q i (get_or ys i d)) → (i : ℕ) (d : X) → i < j + 1 → Q i (get_or (set ys j z) i d)
  upto-set Q here before i d h =
      ⊎_elim
      (λ same. subst (λ m. Q m (get_or (set ys j z) m d)) (sym same) (subst (Q j) (sym (get_or-set_same ys j z d below)) here))
      (λ other. subst (Q i) (sym (get_or-set_other ys j i z d other)) (before i d (omega (arith, other))))
      (cases_eq i j)
