-- Laws of images, and of the states of lines.
use Rattle.std.proofs.Common.{◌≡◌, ℕ, true, false, eqb, List, [], ◌∷◌, ◌++◌, fold, refl, sym, ap, ◌∙◌, eqb-true, append_assoc, append-nil, subst, ⊎_elim, eq-eqb}
use Rattle.std.specs.List.{AllByRecursion}
use Rattle.std.proofs.lemmas.Bool.{cases_Bool}
use Rattle.std.proofs.lemmas.List.Sums.{fold-append}
use Rattle.xb_model.specs.Lines.{of_line}
use Rattle.xb_model.specs.Image.{Machine, state_after, image_after, image, image_from, image_on}
use Rattle.xb_model.proofs.Lines.{of_line-append, of_line-here, of_line-other, of_line-all, of_line-none, of_line-twice, of_line-on}

-- what is sent for one item more, and for many
pub image_from-append : {I O S : Type 0} (m : Machine I O S) (s : S) (xs ys : List I)
    → image_from m s (xs ++ ys) ≡ image_from m s xs ++ image_from m (fold m.next s xs) ys
image_from-append m s [] ys = refl
image_from-append m s (x ∷ xs) ys =
    ap (λ rest. m.outs s x ++ rest) (image_from-append m (m.next s x) xs ys)
    ∙ sym (append_assoc (m.outs s x) (image_from m (m.next s x) xs) (image_from m (fold m.next (m.next s x) xs) ys))

module _ {I O S : Type 0} (line : I → ℕ) (m : Machine I O S) where
  -- the first items of a line leave what they leave among others
  pub state_after-line : (earlier : List I) (l : ℕ) → state_after line m (of_line line l earlier) l ≡ state_after line m earlier l
  unfolding state_after
  state_after-line earlier l = ap (fold m.next m.start) (of_line-twice line l earlier)

  -- before its first item a line has the state at first
  pub state_after-none : (l : ℕ) → state_after line m [] l ≡ m.start
  unfolding state_after
  state_after-none l = refl

  -- an item changes the state of its line
  pub state_after-here : (earlier : List I) (x : I) (l : ℕ) → eqb (line x) l ≡ true → state_after line m (earlier ++ x ∷ []) l ≡ m.next (state_after line m earlier l) x
  unfolding state_after
  state_after-here earlier x l h =
      ap (fold m.next m.start) (of_line-append line l earlier (x ∷ []) ∙ ap (λ ys. of_line line l earlier ++ ys) (of_line-here line l x [] h))
      ∙ fold-append m.next m.start (of_line line l earlier) (x ∷ [])

  -- and of no other
  pub state_after-other : (earlier : List I) (x : I) (l : ℕ) → eqb (line x) l ≡ false → state_after line m (earlier ++ x ∷ []) l ≡ state_after line m earlier l
  unfolding state_after
  state_after-other earlier x l h =
      ap (fold m.next m.start) (of_line-append line l earlier (x ∷ []) ∙ ap (λ ys. of_line line l earlier ++ ys) (of_line-other line l x [] h) ∙ append-nil (of_line line l earlier))

  -- an item in front
  pub image_after-cons : (earlier : List I) (x : I) (xs : List I) → image_after line m earlier (x ∷ xs) ≡ m.outs (state_after line m earlier (line x)) x ++ image_after line m (earlier ++ x ∷ []) xs
  unfolding image_after
  image_after-cons earlier x xs = refl

  -- no items
  pub image_after-none : (earlier : List I) → image_after line m earlier [] ≡ []
  unfolding image_after
  image_after-none earlier = refl

  -- the later items find the earlier ones before them
  pub image_after-append : (earlier xs ys : List I) → image_after line m earlier (xs ++ ys) ≡ image_after line m earlier xs ++ image_after line m (earlier ++ xs) ys
  unfolding image_after
  image_after-append earlier [] ys = ap (λ e. image_after line m e ys) (sym (append-nil earlier))
  image_after-append earlier (x ∷ xs) ys =
      ap (λ zs. m.outs (state_after line m earlier (line x)) x ++ zs)
      (image_after-append (earlier ++ x ∷ []) xs ys ∙ ap (λ e. image_after line m (earlier ++ x ∷ []) xs ++ image_after line m e ys) (append_assoc earlier (x ∷ []) xs))
      ∙ sym (append_assoc (m.outs (state_after line m earlier (line x)) x) _ _)

  -- one item more
  pub image-push : (xs : List I) (x : I) → image line m (xs ++ x ∷ []) ≡ image line m xs ++ m.outs (state_after line m xs (line x)) x
  unfolding image_after
  image-push xs x = image_after-append [] xs (x ∷ []) ∙ ap (λ zs. image line m xs ++ zs) (append-nil _)

module _ {I O S : Type 0} (line : I → ℕ) (out_line : O → ℕ) (m : Machine I O S)
    (on_line : (q : S) (x : I) → AllByRecursion (λ y. out_line y ≡ line x) (m.outs q x)) where
  -- the items of a line in an image are the image of the line's items, with its earlier items alone
  image_after-line : (l : ℕ) (earlier xs : List I) → of_line out_line l (image_after line m earlier xs) ≡ image_after line m (of_line line l earlier) (of_line line l xs)
  unfolding image_after
  image_after-line l earlier [] = refl
  image_after-line l earlier (x ∷ xs) =
      let q = state_after line m earlier (line x) in
      of_line-append out_line l (m.outs q x) _
      ∙ ap (λ zs. of_line out_line l (m.outs q x) ++ zs) (image_after-line l (earlier ++ x ∷ []) xs)
      ∙ ⊎_elim
      (λ h.
      let same : line x ≡ l = eqb-true _ _ h in
      let here : of_line line l (earlier ++ x ∷ []) ≡ of_line line l earlier ++ x ∷ [] = of_line-append line l earlier (x ∷ []) ∙ ap (λ zs. of_line line l earlier ++ zs) (of_line-here line l x [] h) in
      let state : state_after line m (of_line line l earlier) (line x) ≡ q = ap (λ k. state_after line m (of_line line l earlier) k) same ∙ state_after-line line m earlier l ∙ ap (state_after line m earlier) (sym same) in
      rw (of_line-all out_line l (m.outs q x) (subst (λ k. AllByRecursion (λ y. out_line y ≡ k) (m.outs q x)) same (on_line q x)), here, of_line-here line l x xs h, image_after-cons line m (of_line line l earlier) x (of_line line l xs), state) refl)
      (λ h.
      let here : of_line line l (earlier ++ x ∷ []) ≡ of_line line l earlier = of_line-append line l earlier (x ∷ []) ∙ ap (λ zs. of_line line l earlier ++ zs) (of_line-other line l x [] h) ∙ append-nil _ in
      rw (of_line-none out_line l (line x) (m.outs q x) (on_line q x) h, here, of_line-other line l x xs h) refl)
      (cases_Bool (eqb (line x) l))

  -- the items of a line in an image are the image of the line's items
  pub image-line : (l : ℕ) (xs : List I) → of_line out_line l (image line m xs) ≡ image line m (of_line line l xs)
  image-line l xs = image_after-line l [] xs

module _ {I O S : Type 0} (line : I → ℕ) (m : Machine I O S) where
  -- where every item is on one line, each finds the state that the one before it left
  pub image_after-one : (l : ℕ) (earlier xs : List I) → AllByRecursion (λ x. line x ≡ l) xs → image_after line m earlier xs ≡ image_from m (state_after line m earlier l) xs
  unfolding image_after
  image_after-one l earlier [] a = refl
  image_after-one l earlier (x ∷ xs) a =
      ap (λ k. m.outs (state_after line m earlier k) x ++ image_after line m (earlier ++ x ∷ []) xs) a.0
      ∙ ap (λ zs. m.outs (state_after line m earlier l) x ++ zs)
      (image_after-one l (earlier ++ x ∷ []) xs a.1 ∙ ap (λ s. image_from m s xs) (state_after-here line m earlier x l (eq-eqb _ _ a.0)))

  -- the image of items of one line needs one state
  pub image-one : (l : ℕ) (xs : List I) → AllByRecursion (λ x. line x ≡ l) xs → image line m xs ≡ image_on m xs
  image-one l xs a = image_after-one l [] xs a ∙ ap (λ s. image_from m s xs) (state_after-none line m l)

module _ {I O S : Type 0} (line : I → ℕ) (out_line : O → ℕ) (m : Machine I O S)
    (on_line : (q : S) (x : I) → AllByRecursion (λ y. out_line y ≡ line x) (m.outs q x)) where
  -- the items of a line in an image are what one state makes of the line's items
  pub image-of_line : (l : ℕ) (xs : List I) → of_line out_line l (image line m xs) ≡ image_on m (of_line line l xs)
  image-of_line l xs = image-line line out_line m on_line l xs ∙ image-one line m l (of_line line l xs) (of_line-on line l xs)
