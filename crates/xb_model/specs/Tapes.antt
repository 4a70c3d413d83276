-- The tape of a line.
use Rattle.std.specs.Prelude.{◌≡◌, ℕ, true, false, List, [], ◌∷◌, ◌++◌, map, if◌then◌else◌, slice_index_or}
use Rattle.std.specs.List.{AllByRecursion, flat_map}
use Rattle.xb_model.specs.declared.limits.Limits.{Limits}
use Rattle.xb_model.specs.declared.line.TheConstants.{LINES}
use Rattle.xb_model.specs.declared.plan.Plan.{Plan}
use Rattle.xb_model.specs.declared.mark.Mark.{Mark}
use Rattle.xb_model.specs.Lines.{lines_below}
use Rattle.xb_model.specs.Rows.{LoopRow}
use Rattle.xb_model.specs.Records.{record_of}
use Rattle.xb_model.specs.Numbers.{outcomes_of}
use Rattle.xb_model.specs.Routing.{CodedRoute, order_of}
use Rattle.xb_model.specs.Keyings.{marks_of, is_ending}

-- the tape of line l: one entry for each attempt, in order
abbrev pub tape_of : Plan → Limits → List CodedRoute → ℕ → List LoopRow → List (List Mark)
tape_of plan limits routes l rows =
    map (λ outcome. marks_of (order_of routes outcome)) (outcomes_of plan limits (record_of l rows))

-- the tape of line l, its entries joined
abbrev pub joined_tape : Plan → Limits → List CodedRoute → ℕ → List LoopRow → List Mark
joined_tape plan limits routes l rows = flat_map (λ entry. entry) (tape_of plan limits routes l rows)

-- the tapes that rows make: that of each line, from line 0 on
abbrev pub tapes_of : Plan → Limits → List CodedRoute → List LoopRow → List (List Mark)
tapes_of plan limits routes rows = map (λ l. joined_tape plan limits routes l rows) (lines_below LINES)

-- the marks of line l, of the tapes of all lines
abbrev pub marks_at : List (List Mark) → ℕ → List Mark
marks_at tapes l = slice_index_or tapes l []

-- a mark before the first entry; before none it belongs to no entry
abbrev pub into_first_entry : Mark → List (List Mark) → List (List Mark)
into_first_entry mark [] = []
into_first_entry mark (entry ∷ entries) = (mark ∷ entry) ∷ entries

-- the entries of marks: cut after every ending mark; a last part that is not ended is no entry
abbrev pub entries_of : List Mark → List (List Mark)
entries_of [] = []
entries_of (mark ∷ marks) = if is_ending mark then (mark ∷ []) ∷ entries_of marks
    else into_first_entry mark (entries_of marks)

-- none of the marks ends an entry
abbrev pub IsUnended : List Mark → Type 0
IsUnended marks = AllByRecursion (λ mark. is_ending mark ≡ false) marks

-- exactly the last of the marks ends an entry
pub record EndsAtLast (marks : List Mark) : Type 0 where
  pub earlier : List Mark
  pub last : Mark
  pub parts : marks ≡ earlier ++ last ∷ []
  pub goes_on : IsUnended earlier
  pub ends : is_ending last ≡ true
