-- Items without those of a line, and the image of them.
use Rattle.std.proofs.Common.{◌≡◌, ℕ, true, false, eqb, not, fold, List, [], ◌∷◌, ◌++◌, refl, sym, ap, ◌∙◌, eqb-true, append-nil, ⊎_elim}
use Rattle.std.specs.List.{AllByRecursion}
use Rattle.std.proofs.lemmas.Bool.{cases_Bool, cond-true, cond-false, eqb-false}
use Rattle.std.proofs.lemmas.List.Elements.{filter-append}
use Rattle.xb_model.specs.Lines.{of_line}
use Rattle.xb_model.proofs.Lines.{of_line-here, of_line-other}
use Rattle.xb_model.specs.Image.{Machine, state_after, image_after, image}
use Rattle.xb_model.proofs.Images.{image_after-cons}
use Rattle.xb_serial.specs.Without.{without}

turned : (k l : ℕ) → eqb k l ≡ false → eqb l k ≡ false
turned k l h = ⊎_elim (λ t. absurd (eqb-false k l h (sym (eqb-true l k t)))) (λ f. f) (cases_Bool (eqb l k))

module _ {X : Type 0} (line : X → ℕ) (l : ℕ) where
  pub without-here : (x : X) (xs : List X) → eqb (line x) l ≡ true → without line l (x ∷ xs) ≡ without line l xs
  without-here x xs h = cond-false _ _ _ (ap not h)

  pub without-other : (x : X) (xs : List X) → eqb (line x) l ≡ false → without line l (x ∷ xs) ≡ x ∷ without line l xs
  without-other x xs h = cond-true _ _ _ (ap not h)

  without-append : (xs ys : List X) → without line l (xs ++ ys) ≡ without line l xs ++ without line l ys
  without-append xs ys = filter-append (λ x. not (eqb (line x) l)) xs ys

  -- of items that are all on one line, that line or none is left out
  without-all : (k : ℕ) (xs : List X) → AllByRecursion (λ x. line x ≡ k) xs → eqb k l ≡ true → without line l xs ≡ []
  without-all k [] on same = refl
  without-all k (x ∷ xs) on same = without-here x xs (ap (λ i. eqb i l) on.0 ∙ same) ∙ without-all k xs on.1 same

  without-none : (k : ℕ) (xs : List X) → AllByRecursion (λ x. line x ≡ k) xs → eqb k l ≡ false → without line l xs ≡ xs
  without-none k [] on other = refl
  without-none k (x ∷ xs) on other = without-other x xs (ap (λ i. eqb i l) on.0 ∙ other) ∙ ap (λ ys. x ∷ ys) (without-none k xs on.1 other)

  -- the line has no items then
  of_line-without_same : (xs : List X) → of_line line l (without line l xs) ≡ []
  of_line-without_same [] = refl
  of_line-without_same (x ∷ xs) =
      ⊎_elim
      (λ h. ap (of_line line l) (without-here x xs h) ∙ of_line-without_same xs)
      (λ h. ap (of_line line l) (without-other x xs h) ∙ of_line-other line l x (without line l xs) h ∙ of_line-without_same xs)
      (cases_Bool (eqb (line x) l))

  -- and another has all its own
  of_line-without_other : (k : ℕ) (xs : List X) → eqb l k ≡ false → of_line line k (without line l xs) ≡ of_line line k xs
  of_line-without_other k [] n = refl
  of_line-without_other k (x ∷ xs) n =
      ⊎_elim
      (λ h.
      let other : eqb (line x) k ≡ false = ap (λ i. eqb i k) (eqb-true (line x) l h) ∙ n in
      ap (of_line line k) (without-here x xs h) ∙ of_line-without_other k xs n ∙ sym (of_line-other line k x xs other))
      (λ h.
      ap (of_line line k) (without-other x xs h)
      ∙ ⊎_elim
      (λ t. of_line-here line k x (without line l xs) t ∙ ap (λ ys. x ∷ ys) (of_line-without_other k xs n) ∙ sym (of_line-here line k x xs t))
      (λ f. of_line-other line k x (without line l xs) f ∙ of_line-without_other k xs n ∙ sym (of_line-other line k x xs f))
      (cases_Bool (eqb (line x) k)))
      (cases_Bool (eqb (line x) l))

module _ {I O S : Type 0} (line : I → ℕ) (m : Machine I O S) (l : ℕ) where
  -- the line is as before its first item
  pub state_after-without_same : (xs : List I) → state_after line m (without line l xs) l ≡ m.start
  unfolding state_after
  state_after-without_same xs = ap (fold m.next m.start) (of_line-without_same line l xs)

  -- the others are as they are
  pub state_after-without_other : (xs : List I) (k : ℕ) → eqb l k ≡ false → state_after line m (without line l xs) k ≡ state_after line m xs k
  unfolding state_after
  state_after-without_other xs k n = ap (fold m.next m.start) (of_line-without_other line l k xs n)

module _ {I O S : Type 0} (line : I → ℕ) (out_line : O → ℕ) (m : Machine I O S)
    (on_line : (q : S) (x : I) → AllByRecursion (λ y. out_line y ≡ line x) (m.outs q x)) (l : ℕ) where
  -- what is sent for the items of the other lines is what is sent on those lines
  image_after-without : (earlier xs : List I) → without out_line l (image_after line m earlier xs) ≡ image_after line m (without line l earlier) (without line l xs)
  unfolding image_after
  image_after-without earlier [] = refl
  image_after-without earlier (x ∷ xs) =
      let q : S = state_after line m earlier (line x) in
      without-append out_line l (m.outs q x) _
      ∙ ap (λ zs. without out_line l (m.outs q x) ++ zs) (image_after-without (earlier ++ x ∷ []) xs)
      ∙ ⊎_elim
      (λ h.
      let gone : without line l (earlier ++ x ∷ []) ≡ without line l earlier = without-append line l earlier (x ∷ []) ∙ ap (λ zs. without line l earlier ++ zs) (without-here line l x [] h) ∙ append-nil _ in
      rw (without-all out_line l (line x) (m.outs q x) (on_line q x) h, gone, without-here line l x xs h) refl)
      (λ h.
      let kept : without line l (earlier ++ x ∷ []) ≡ without line l earlier ++ x ∷ [] = without-append line l earlier (x ∷ []) ∙ ap (λ zs. without line l earlier ++ zs) (without-other line l x [] h) in
      let state : state_after line m (without line l earlier) (line x) ≡ q = state_after-without_other line m l earlier (line x) (turned (line x) l h) in
      rw (without-none out_line l (line x) (m.outs q x) (on_line q x) h, kept, without-other line l x xs h, image_after-cons line m (without line l earlier) x (without line l xs), state) refl)
      (cases_Bool (eqb (line x) l))

  pub image-without : (xs : List I) → without out_line l (image line m xs) ≡ image line m (without line l xs)
  image-without xs = image_after-without [] xs
