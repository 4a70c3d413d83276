-- What outcomes give a line.
use Rattle.std.specs.Prelude.{◌≡◌, ℕ, ◌+◌, List, length, map, take}
use Rattle.std.specs.List.{flat_map}
use Rattle.xb_model.specs.declared.dialled.Dialled.{Dialled}
use Rattle.xb_model.specs.declared.mark.Mark.{Mark}
use Rattle.xb_model.specs.Keyings.{marks_of}
use Rattle.xb_model.specs.Routing.{CodedRoute, order_of}
use Rattle.xb_structs.specs.declared.line.PlainLine.{PlainLine}
use Rattle.xb_structs.specs.declared.mark.PlainMark.{PlainMark}
use Rattle.xb_structs.specs.Lines.{state_in}
use Rattle.xb_structs.specs.Marks.{mark_on}
use Rattle.xb_structs.specs.Taking.{counted}

-- the marks of outcomes, each by its order
abbrev pub marks_of_outcomes : List CodedRoute → List Dialled → List Mark
marks_of_outcomes routes outcomes = flat_map (λ outcome. marks_of (order_of routes outcome)) outcomes

-- so many marks at the front of the room are those of the outcomes, on the line, which is in the state that it
-- was heard in, and has an entry more for each outcome
pub record Gives (routes : List CodedRoute) (line : ℕ) (outcomes : List Dialled) (heard new : PlainLine) (room : List PlainMark) (count : ℕ) : Type 0 where
  pub state : state_in new ≡ state_in heard
  pub marks : take count room ≡ map (mark_on line) (marks_of_outcomes routes outcomes)
  pub entries : new.entries ≡ counted (heard.entries + length outcomes)
