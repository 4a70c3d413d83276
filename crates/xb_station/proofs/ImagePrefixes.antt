-- The image of a prefix is a prefix of the image.
use Rattle.std.proofs.Common.{◌≡◌, ℕ, true, cond, List, [], ◌∷◌, ◌++◌, map, refl, sym, ap, ◌∙◌, subst, ⊎_elim, append-nil, append_assoc}
use mathlib.Core.List.{IsPrefix}
use Rattle.std.proofs.lemmas.Bool.{cases_Bool}
use Rattle.std.proofs.lemmas.List.{map-append}
use Rattle.xb_model.specs.Image.{Machine, image_after, image}
use Rattle.xb_model.proofs.Images.{image_after-append}
use Rattle.xb_flow.specs.declared.flow.Flow.{Flow}
use Rattle.xb_flow.specs.declared.flow.Flow.TheVariants.{Item, End}
use Rattle.xb_flow.specs.Flows.{items_of, has_end}
use Rattle.xb_station.specs.FlowImages.{flow_image}
use Rattle.xb_flow.proofs.Flows.{items_of-prefix, items_of-ended, has_end-ended}
use Rattle.xb_flow.proofs.Prefixes.{prefix_same}

module _ {I O S : Type 0} (line : I → ℕ) (m : Machine I O S) where
  -- more items give more of the image
  pub image-prefix : (xs ys : List I) → IsPrefix xs ys → IsPrefix (image line m xs) (image line m ys)
  image-prefix xs ys p = subst (λ zs. IsPrefix (image line m xs) (image line m zs)) p.1 (image_after line m xs p.0, sym (image_after-append line m [] xs p.0))

  -- with the End too
  pub flow_image-prefix : (xs ys : List (Flow I)) → IsPrefix xs ys → IsPrefix (flow_image line m xs) (flow_image line m ys)
  flow_image-prefix xs ys p =
      subst (λ zs. IsPrefix (flow_image line m xs) (flow_image line m zs)) p.1
      (⊎_elim
      (λ t. prefix_same (flow_image line m xs) (flow_image line m (xs ++ p.0)) (rw (items_of-ended xs p.0 t, has_end-ended xs p.0 t, t) refl))
      (λ f.
      let more = xs ++ p.0 in
      let end = cond (has_end more) (End ∷ []) [] in
      let q = image-prefix (items_of xs) (items_of more) (items_of-prefix xs p.0) in (
        map Item q.0 ++ end,
        rw f (ap (λ zs. zs ++ (map Item q.0 ++ end)) (append-nil (map Item (image line m (items_of xs))))
            ∙ (sym (append_assoc (map Item (image line m (items_of xs))) (map Item q.0) end)
            ∙ ap (λ zs. zs ++ end) (sym (map-append Item (image line m (items_of xs)) q.0) ∙ ap (map Item) q.1))),
      ))
      (cases_Bool (has_end xs)))

  -- an End gives one End, and nothing after it counts
  pub flow_image-closed : (xs : List I) (rest : List (Flow I)) → flow_image line m (map Item xs ++ End ∷ rest) ≡ map Item (image line m xs) ++ End ∷ []
  flow_image-closed xs rest = rw (items_of-closed xs rest, has_end-closed xs rest) refl
    where
      items_of-closed : (xs : List I) (rest : List (Flow I)) → items_of (map Item xs ++ End ∷ rest) ≡ xs
      items_of-closed [] rest = refl
      items_of-closed (x ∷ xs) rest = ap (λ zs. x ∷ zs) (items_of-closed xs rest)

      has_end-closed : (xs : List I) (rest : List (Flow I)) → has_end (map Item xs ++ End ∷ rest) ≡ true
      has_end-closed [] rest = refl
      has_end-closed (x ∷ xs) rest = has_end-closed xs rest
