-- Laws of images on one line, and of items that stand on it.
use Rattle.std.proofs.Common.{◌≡◌, ℕ, List, [], ◌∷◌, ◌++◌, fold, sym, subst}
use mathlib.Core.List.{IsPrefix}
use Rattle.std.specs.List.{AllByRecursion, flat_map}
use Rattle.xb_model.specs.Image.{Machine, image_from}
use Rattle.xb_model.proofs.Images.{image_from-append}

-- what holds of two lists holds of both, one after the other
pub both_all : {X : Type 0} (P : X → Type 0) (xs ys : List X) → AllByRecursion P xs → AllByRecursion P ys → AllByRecursion P (xs ++ ys)
both_all P [] ys p q = q
both_all P (x ∷ xs) ys p q = (p.0, both_all P xs ys p.1 q)

-- what holds of the list of each item holds of them all
pub flat_all : {X Y : Type 0} (P : Y → Type 0) (Q : X → Type 0) (f : X → List Y) → ((x : X) → Q x → AllByRecursion P (f x)) → (xs : List X) → AllByRecursion Q xs → AllByRecursion P (flat_map f xs)
flat_all P Q f each [] q = tt
flat_all P Q f each (x ∷ xs) q = both_all P (f x) (flat_map f xs) (each x q.0) (flat_all P Q f each xs q.1)

module _ {I O S : Type 0} (m : Machine I O S) where
  -- more items give more
  pub image_from-prefix : (s : S) (xs ys : List I) → IsPrefix xs ys → IsPrefix (image_from m s xs) (image_from m s ys)
  image_from-prefix s xs ys p =
      subst (λ zs. IsPrefix (image_from m s xs) (image_from m s zs)) p.1
      (image_from m (fold m.next s xs) p.0, sym (image_from-append m s xs p.0))

  -- what is sent for items of one line is on it
  pub image_from-on : (line : I → ℕ) (out_line : O → ℕ) → ((q : S) (x : I) → AllByRecursion (λ y. out_line y ≡ line x) (m.outs q x))
      → (l : ℕ) (s : S) (xs : List I) → AllByRecursion (λ x. line x ≡ l) xs → AllByRecursion (λ y. out_line y ≡ l) (image_from m s xs)
  image_from-on line out_line on l s [] a = tt
  image_from-on line out_line on l s (x ∷ xs) a =
      both_all (λ y. out_line y ≡ l) (m.outs s x) (image_from m (m.next s x) xs)
      (subst (λ k. AllByRecursion (λ y. out_line y ≡ k) (m.outs s x)) a.0 (on s x))
      (image_from-on line out_line on l (m.next s x) xs a.1)
