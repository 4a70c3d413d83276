-- Laws of the items of one line.
use Rattle.std.proofs.Common.{◌≡◌, ℕ, true, false, eqb, List, [], ◌∷◌, ◌++◌, refl, sym, ap, ◌∙◌, eq-eqb, eqb-true, subst, ⊎_elim}
use Rattle.std.specs.List.{AllByRecursion}
use Rattle.std.proofs.lemmas.Bool.{cases_Bool, cond-true, cond-false}
use Rattle.std.proofs.lemmas.List.Elements.{filter-append}
use Rattle.xb_model.specs.Lines.{of_line}

module _ {X : Type 0} (line : X → ℕ) where
  -- the items of a line in two lists, one after the other
  pub of_line-append : (l : ℕ) (xs ys : List X) → of_line line l (xs ++ ys) ≡ of_line line l xs ++ of_line line l ys
  of_line-append l xs ys = filter-append (λ x. eqb (line x) l) xs ys

  -- an item of the line in front
  pub of_line-here : (l : ℕ) (x : X) (xs : List X) → eqb (line x) l ≡ true → of_line line l (x ∷ xs) ≡ x ∷ of_line line l xs
  of_line-here l x xs h = cond-true _ _ _ h

  -- an item of another line in front
  pub of_line-other : (l : ℕ) (x : X) (xs : List X) → eqb (line x) l ≡ false → of_line line l (x ∷ xs) ≡ of_line line l xs
  of_line-other l x xs h = cond-false _ _ _ h

  -- where every item is on one line, that line has them all and any other none
  pub of_line-all : (l : ℕ) (xs : List X) → AllByRecursion (λ x. line x ≡ l) xs → of_line line l xs ≡ xs
  of_line-all l [] h = refl
  of_line-all l (x ∷ xs) h = of_line-here l x xs (eq-eqb _ _ h.0) ∙ ap (λ ys. x ∷ ys) (of_line-all l xs h.1)

  -- no other line has any of them
  pub of_line-none : (l k : ℕ) (xs : List X) → AllByRecursion (λ x. line x ≡ k) xs → eqb k l ≡ false → of_line line l xs ≡ []
  of_line-none l k [] h n = refl
  of_line-none l k (x ∷ xs) h n = of_line-other l x xs (ap (λ i. eqb i l) h.0 ∙ n) ∙ of_line-none l k xs h.1 n

  -- the items of a line among the items of the line are all of them
  pub of_line-twice : (l : ℕ) (xs : List X) → of_line line l (of_line line l xs) ≡ of_line line l xs
  of_line-twice l [] = refl
  of_line-twice l (x ∷ xs) =
      ⊎_elim
      (λ h. ap (of_line line l) (of_line-here l x xs h) ∙ of_line-here l x _ h ∙ ap (λ ys. x ∷ ys) (of_line-twice l xs) ∙ sym (of_line-here l x xs h))
      (λ h. ap (of_line line l) (of_line-other l x xs h) ∙ of_line-twice l xs ∙ sym (of_line-other l x xs h))
      (cases_Bool (eqb (line x) l))

  -- the items of a line are on it
  pub of_line-on : (l : ℕ) (xs : List X) → AllByRecursion (λ x. line x ≡ l) (of_line line l xs)
  of_line-on l [] = tt
  of_line-on l (x ∷ xs) =
      ⊎_elim
      (λ h. subst (λ ys. AllByRecursion (λ y. line y ≡ l) ys) (sym (of_line-here l x xs h)) (eqb-true _ _ h, of_line-on l xs))
      (λ h. subst (λ ys. AllByRecursion (λ y. line y ≡ l) ys) (sym (of_line-other l x xs h)) (of_line-on l xs))
      (cases_Bool (eqb (line x) l))
