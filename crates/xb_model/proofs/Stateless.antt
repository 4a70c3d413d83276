-- What stages that keep no state make of lists of items.
use Rattle.std.proofs.Common.{◌≡◌, List, [], ◌∷◌, ◌++◌, refl, ap, ◌∙◌}
use Rattle.std.specs.List.{flat_map}
use Rattle.xb_model.specs.declared.line.LineNo.{LineNo}
use Rattle.xb_model.specs.declared.on.On.{On}
use Rattle.xb_model.specs.Lines.{on_line_of}
use Rattle.xb_model.specs.Image.{image_from, image_on, image_after, image}
use Rattle.xb_model.specs.OnLines.{on_line, whats_from}
use Rattle.xb_model.specs.Stateless.{stateless}
use Rattle.xb_model.proofs.OnLines.{image_from-whats}

module _ {A B : Type 0} (f : A → List B) where
  -- what it says depends on no state
  whats_from-stateless : (state : Unit {0}) (whats : List A) → whats_from (λ state what. tt) (λ state what. f what) state whats ≡ flat_map f whats
  whats_from-stateless state [] = refl
  whats_from-stateless state (what ∷ whats) = ap (λ sent. f what ++ sent) (whats_from-stateless tt whats)

  -- from any state on
  image_from-stateless : (line : LineNo) (state : Unit {0}) (whats : List A) → image_from (stateless f) state (on_line line whats) ≡ on_line line (flat_map f whats)
  image_from-stateless line state whats =
      image_from-whats tt (λ state what. tt) (λ state what. f what) line state whats
      ∙ ap (on_line line) (whats_from-stateless state whats)

  -- on one line, each item gives what f says
  pub image-stateless : (line : LineNo) (whats : List A) → image_on (stateless f) (on_line line whats) ≡ on_line line (flat_map f whats)
  image-stateless line whats = image_from-stateless line tt whats

  -- after any items
  image_after-stateless : (earlier items : List (On A)) → image_after on_line_of (stateless f) earlier items ≡ flat_map (λ (item : On A). on_line item.line (f item.what)) items
  unfolding image_after
  image_after-stateless earlier [] = refl
  image_after-stateless earlier (item ∷ items) =
      ap (λ sent. on_line item.line (f item.what) ++ sent) (image_after-stateless (earlier ++ item ∷ []) items)

  -- on all lines too
  pub image_all-stateless : (items : List (On A)) → image on_line_of (stateless f) items ≡ flat_map (λ (item : On A). on_line item.line (f item.what)) items
  image_all-stateless items = image_after-stateless [] items
