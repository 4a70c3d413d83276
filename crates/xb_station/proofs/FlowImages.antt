-- Laws of the image of items as they go through a ring.
use Rattle.std.proofs.Common.{Bool, false, ◌≡◌, ℕ, List, [], ◌∷◌, ◌++◌, map, sym, ap, ◌∙◌, append-nil}
use Rattle.std.proofs.lemmas.List.{map-append}
use Rattle.xb_model.specs.Image.{Machine, state_after, image}
use Rattle.xb_model.proofs.Images.{image-push}
use Rattle.xb_flow.specs.Flows.{has_end, items_of}
use Rattle.xb_flow.specs.declared.flow.Flow.{Flow}
use Rattle.xb_flow.specs.declared.flow.Flow.TheVariants.{Item, End}
use Rattle.xb_flow.proofs.Flows.{items_of-item, items_of-end, has_end-item, has_end-end}
use Rattle.xb_station.specs.FlowImages.{flow_image}

module _ {I O S : Type 0} (line : I → ℕ) (m : Machine I O S) where
  pub flow_image-item : (xs : List (Flow I)) (x : I) → has_end xs ≡ false
      → flow_image line m (xs ++ Item x ∷ []) ≡ flow_image line m xs ++ map Item (m.outs (state_after line m (items_of xs) (line x)) x)
  flow_image-item xs x h =
      rw (items_of-item xs x h, has_end-item xs x h, h, image-push line m (items_of xs) x, map-append Item (image line m (items_of xs)) (m.outs (state_after line m (items_of xs) (line x)) x)) (append-nil _ ∙ ap (λ zs. zs ++ map Item (m.outs (state_after line m (items_of xs) (line x)) x)) (sym (append-nil _)))

  pub flow_image-end : (xs : List (Flow I)) → has_end xs ≡ false → flow_image line m (xs ++ End ∷ []) ≡ flow_image line m xs ++ End ∷ []
  flow_image-end xs h = rw (items_of-end xs h, has_end-end xs h, h) (ap (λ zs. zs ++ End ∷ []) (sym (append-nil _)))
