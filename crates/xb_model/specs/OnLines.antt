-- Stages that put what they say on the item's line.
use Rattle.std.specs.Prelude.{◌≡◌, List, [], ◌∷◌, ◌++◌, map, refl}
use Rattle.std.specs.List.{AllByRecursion}
use Rattle.xb_model.specs.declared.line.LineNo.{LineNo}
use Rattle.xb_model.specs.declared.on.On.{On}
use Rattle.xb_model.specs.Lines.{on_line_of}
use Rattle.xb_model.specs.Image.{Machine}

-- each of these, on the line
abbrev pub on_line : {A : Type 0} → LineNo → List A → List (On A)
on_line line whats = map (λ what. record { line = line; what = what }) whats

-- what is put on a line is on it
pub all_on :
    {A : Type 0} (line : LineNo) (whats : List A)
    → AllByRecursion (λ (item : On A). item.line ≡ line) (on_line line whats)
all_on line [] = tt
all_on line (what ∷ whats) = (refl, all_on line whats)

-- a stage that says `whats` for an item, and puts it on the item's line
abbrev pub on_lines :
    {I A S : Type 0} → (I → LineNo) → S → (S → I → S) → (S → I → List A) → Machine I (On A) S
on_lines line start next whats =
    record {
      start = start;
      next = next;
      outs = λ state item. on_line (line item) (whats state item);
    }

-- what such a stage says for items of one line, from a state on
abbrev pub whats_from : {I A S : Type 0} → (S → I → S) → (S → I → List A) → S → List I → List A
whats_from next whats state [] = []
whats_from next whats state (item ∷ items) = whats state item ++ whats_from next whats (next state item) items

-- what such a stage sends for an item is on the item's line
pub outs_on_line :
    {I A S : Type 0} (line : I → LineNo) (whats : S → I → List A) (state : S) (item : I)
    → AllByRecursion (λ (sent : On A). sent.line ≡ line item) (on_line (line item) (whats state item))
outs_on_line line whats state item = all_on (line item) (whats state item)

-- a stage that takes what stands on lines, and asks only what it is
abbrev pub whats_on_lines : {A B S : Type 0} → S → (S → A → S) → (S → A → List B) → Machine (On A) (On B) S
whats_on_lines start next whats =
    on_lines on_line_of start (λ state item. next state item.what) (λ state item. whats state item.what)
