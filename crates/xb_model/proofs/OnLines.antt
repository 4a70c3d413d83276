-- What stages that put what they say on the item's line make of the items of one line.
use Rattle.std.proofs.Common.{◌≡◌, List, [], ◌∷◌, ◌++◌, refl, sym, ap, ◌∙◌}
use Rattle.std.specs.List.{AllByRecursion}
use Rattle.std.proofs.lemmas.List.{map-append}
use Rattle.xb_model.specs.declared.line.LineNo.{LineNo}
use Rattle.xb_model.specs.declared.on.On.{On}
use Rattle.xb_model.specs.Lines.{on_line_of}
use Rattle.xb_model.specs.Image.{image_from}
use Rattle.xb_model.specs.OnLines.{on_line, all_on, on_lines, whats_from, whats_on_lines}

-- a list in front, on the line
pub on_line-append : {A : Type 0} (line : LineNo) (xs ys : List A) → on_line line (xs ++ ys) ≡ on_line line xs ++ on_line line ys
on_line-append {A} line xs ys = map-append (λ (what : A). record { line = line; what = what }) xs ys

module _ {I A S : Type 0} (line_of : I → LineNo) (start : S) (next : S → I → S) (whats : S → I → List A) where
  -- for items of one line the stage sends what it says, on the line
  pub image_from-on_lines : (line : LineNo) (state : S) (items : List I) → AllByRecursion (λ item. line_of item ≡ line) items → image_from (on_lines line_of start next whats) state items ≡ on_line line (whats_from next whats state items)
  image_from-on_lines line state [] on = refl
  image_from-on_lines line state (item ∷ items) on =
      rw (on.0, image_from-on_lines line (next state item) items on.1)
      (sym (on_line-append line (whats state item) (whats_from next whats (next state item) items)))

module _ {A B S : Type 0} (start : S) (next : S → A → S) (whats : S → A → List B) where
  -- of items of one line it says what it says of what stands there
  whats_from-on_line : (line : LineNo) (state : S) (heard : List A) → whats_from (λ state (item : On A). next state item.what) (λ state (item : On A). whats state item.what) state (on_line line heard) ≡ whats_from next whats state heard
  whats_from-on_line line state [] = refl
  whats_from-on_line line state (what ∷ heard) = ap (λ said. whats state what ++ said) (whats_from-on_line line (next state what) heard)

  -- for what stands on one line the stage sends what it says, on the line
  pub image_from-whats : (line : LineNo) (state : S) (heard : List A) → image_from (whats_on_lines start next whats) state (on_line line heard) ≡ on_line line (whats_from next whats state heard)
  image_from-whats line state heard =
      image_from-on_lines on_line_of start (λ state (item : On A). next state item.what) (λ state (item : On A). whats state item.what) line state (on_line line heard) (all_on line heard)
      ∙ ap (on_line line) (whats_from-on_line line state heard)
