-- Merging the images of dealt items, of a stage that keeps no state.
use Rattle.std.proofs.Common.{◌≡◌, ℕ, ◌<◌, Bool, List, sym, ◌∙◌}
use Rattle.std.specs.List.{flat_map}
use Rattle.xb_model.specs.declared.line.LineNo.{LineNo}
use Rattle.xb_model.specs.declared.on.On.{On}
use Rattle.xb_model.specs.Lines.{on_line_of}
use Rattle.xb_model.specs.Image.{image}
use Rattle.xb_model.specs.OnLines.{on_line}
use Rattle.xb_model.specs.Stateless.{stateless}
use Rattle.xb_model.proofs.Stateless.{image_all-stateless}
use Rattle.xb_branches.specs.Dealt.{dealt}
use Rattle.xb_branches.specs.Merged.{merged, IsPiece}
use Rattle.xb_branches.proofs.Merged.{merged_whole, merged_same}

module _ {A B : Type 0} (ends : On B → Bool) (n : ℕ) (some : 0 < n) (f : A → List B) (items : List (On A)) where
  -- merging the images of the dealt items gives the image of all
  pub merged-stateless : ((line : LineNo) (what : A) → IsPiece ends (on_line line (f what)))
      → merged ends n (λ j. image on_line_of (stateless f) (dealt n j items)) ≡ image on_line_of (stateless f) items
  merged-stateless whole =
      let g : On A → List (On B) = λ item. on_line item.line (f item.what) in
      merged_same ends n some (λ j. image on_line_of (stateless f) (dealt n j items)) (λ j. flat_map g (dealt n j items)) (λ j _. image_all-stateless f (dealt n j items))
      ∙ (merged_whole ends n some g (λ item. whole item.line item.what) items ∙ sym (image_all-stateless f items))
