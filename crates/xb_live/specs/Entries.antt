-- The entries of a live office, in the order in which they are completed.
use Rattle.std.specs.Prelude.{ℕ, ◌+◌, List, [], ◌∷◌, ◌++◌, length, count_by, if◌then◌else◌}
use Rattle.xb_model.specs.declared.mark.Mark.{Mark}
use Rattle.xb_model.specs.declared.on.On.{On}
use Rattle.xb_model.specs.Keyings.{is_ending}
use Rattle.xb_model.specs.Lines.{on_line_of, of_line}
use Rattle.xb_model.specs.Page.{is_keyed, is_refused}
use Rattle.xb_model.specs.Rows.{LoopRow}
use Rattle.xb_routes.specs.Table.{Table}
use Rattle.xb_serial.specs.Office.{marks_of_rows}

-- the marks of an entry, on its line
abbrev pub Entry : Type 0
Entry = On (List Mark)

abbrev pub entry_on : ℕ → List Mark → Entry
entry_on line marks = record { line = line; what = marks }

-- a mark before the first entry; before none it belongs to no entry
abbrev pub into_first : On Mark → List Entry → List Entry
into_first mark [] = []
into_first mark (entry ∷ entries) = entry_on entry.line (mark.what ∷ entry.what) ∷ entries

-- the entries of marks of all lines: cut after every ending mark
abbrev pub entries_given : List (On Mark) → List Entry
entries_given [] = []
entries_given (mark ∷ marks) =
    if is_ending mark.what then entry_on mark.line (mark.what ∷ []) ∷ entries_given marks
    else into_first mark (entries_given marks)

-- the entries that rows complete
abbrev pub entries_of_rows : Table → List LoopRow → List Entry
entries_of_rows table rows = entries_given (marks_of_rows table rows)

-- how many of them are keyed, and how many refused
abbrev pub count_keyed : List Entry → ℕ
count_keyed entries = count_by (λ (entry : Entry). is_keyed entry.what) entries

abbrev pub count_refused : List Entry → ℕ
count_refused entries = count_by (λ (entry : Entry). is_refused entry.what) entries

-- an entry, and its number among those of its line, counted from 1
pub record Numbered : Type 0 where
  pub line : ℕ
  pub number : ℕ
  pub marks : List Mark

-- the number of the next entry of a line
abbrev pub next_number : List Entry → ℕ → ℕ
next_number earlier line = length (of_line on_line_of line earlier) + 1

-- entries that come after earlier ones, each with its number
unfoldable pub numbered_after : List Entry → List Entry → List Numbered
numbered_after earlier [] = []
numbered_after earlier (entry ∷ later) =
    record { line = entry.line; number = next_number earlier entry.line; marks = entry.what }
    ∷ numbered_after (earlier ++ entry ∷ []) later
