-- Lists with a test.
use Rattle.std.proofs.Common.{◌≡◌, ◌≢◌, ℕ, zero, suc, ◌+◌, ◌<◌, ◌≤◌, ◌&&◌, Bool, true, false, cond, eqb, List, [], ◌∷◌, refl, sym, ap, ◌∙◌, ⊎_elim, eqb-true, arith}
use Rattle.std.specs.List.{filter, range_with_len}
use Rattle.std.proofs.lemmas.Bool.{cases_Bool, cond-true, cond-false, eqb-false}

-- two tests, one after the other
pub filter_twice : {X : Type 0} (p q : X → Bool) (xs : List X) → filter p (filter q xs) ≡ filter (λ x. q x && p x) xs
filter_twice p q [] = refl
filter_twice p q (x ∷ xs) =
    ⊎_elim
    (λ t. rw t (ap (λ ys. cond (p x) (x ∷ ys) ys) (filter_twice p q xs)))
    (λ f. rw f (filter_twice p q xs))
    (cases_Bool (q x))

-- a test that all pass
pub filter_all : {X : Type 0} (p : X → Bool) (xs : List X) → ((x : X) → p x ≡ true) → filter p xs ≡ xs
filter_all p [] h = refl
filter_all p (x ∷ xs) h = cond-true _ _ _ (h x) ∙ ap (λ ys. x ∷ ys) (filter_all p xs h)

-- tests that agree from a on
filter_range : (p q : ℕ → Bool) (a n : ℕ) → ((k : ℕ) → a ≤ k → p k ≡ q k)
    → filter p (range_with_len a n) ≡ filter q (range_with_len a n)
filter_range p q a zero h = refl
filter_range p q a (suc n) h =
    let here : p a ≡ q a = h a (omega arith) in
    let rest : filter p (range_with_len (a + 1) n) ≡ filter q (range_with_len (a + 1) n) =
    filter_range p q (a + 1) n (λ k l. h k (omega arith)) in
    rw (here, rest) refl

-- numbers of which none passes
pub none_passes : (p : ℕ → Bool) (a n : ℕ) → ((k : ℕ) → k < a + n → p k ≡ false) → filter p (range_with_len a n) ≡ []
none_passes p a zero h = refl
none_passes p a (suc n) h = cond-false _ _ _ (h a (omega arith)) ∙ none_passes p (a + 1) n (λ k l. h k (omega arith))

-- l is the first number that passes p, and q differs from p there alone
module _ (p q : ℕ → Bool) (l : ℕ) (below : (k : ℕ) → k < l → p k ≡ false) (at : p l ≡ true) (off : q l ≡ false)
    (same : (k : ℕ) → k ≢ l → q k ≡ p k) where
  -- then it comes before the numbers that pass q
  pub first_passes : (a n : ℕ) → a ≤ l → l < a + n → filter p (range_with_len a n) ≡ l ∷ filter q (range_with_len a n)
  first_passes a zero low high = absurd (omega arith)
  first_passes a (suc n) low high =
      ⊎_elim
      (λ t.
      let e : a ≡ l = eqb-true _ _ t in
      cond-true _ _ _ (ap p e ∙ at)
      ∙ ap (λ x. x ∷ filter p (range_with_len (a + 1) n)) e
      ∙ ap (λ ys. l ∷ ys)
      (filter_range p q (a + 1) n (λ k m. let other : k ≢ l = λ w. absurd (omega (arith, w, e)) in sym (same k other)))
      ∙ ap (λ ys. l ∷ ys) (sym (cond-false _ _ _ (ap q e ∙ off))))
      (λ f.
      let other : a ≢ l = eqb-false _ _ f in
      let here : p a ≡ false = below a (omega arith) in
      cond-false _ _ _ here
      ∙ first_passes (a + 1) n (omega arith) (omega arith)
      ∙ ap (λ ys. l ∷ ys) (sym (cond-false _ _ _ (same a other ∙ here))))
      (cases_Bool (eqb a l))
