-- A live office that counts its entries.
use Rattle.std.specs.Prelude.{◌≡◌, ◌<◌, ℕ, List, [], ◌∷◌, length, Option, Some, None}
use Rattle.std.specs.List.{AllByRecursion}
use Rattle.xb_model.specs.declared.line.TheConstants.{LINES}
use Rattle.xb_model.specs.declared.mark.Mark.{Mark}
use Rattle.xb_model.specs.LineValues.{AreValues}
use Rattle.xb_model.specs.Lines.{row_line, on_line_of, of_line}
use Rattle.xb_model.specs.Rows.{LoopRow}
use Rattle.xb_serial.specs.Office.{Office, HasTaken, marks_of_rows}
use Rattle.xb_live.specs.Entries.{Entry, Numbered, count_keyed, count_refused, entries_of_rows, entry_on}

-- the office, how many entries each line has had, how many of all are keyed and how many refused, and the
-- marks of the entry that the last row completed
pub record Counted : Type 0 where
  pub live : Office
  pub numbers : List ℕ
  pub keyed : ℕ
  pub refused : ℕ
  pub entry : List Mark

-- each row is on a line of the office
abbrev pub AreOnLines : List LoopRow → Type 0
AreOnLines rows = AllByRecursion (λ row. row_line row < LINES) rows

-- it has taken these rows, and counted the entries that they complete
pub record HasCounted (office : Counted) (rows : List LoopRow) : Type 0 where
  pub taken : HasTaken office.live rows (marks_of_rows office.live.table rows)
  pub lines : AreOnLines rows
  pub numbers : AreValues office.numbers
      (λ l. length (of_line on_line_of l (entries_of_rows office.live.table rows)))
  pub keyed : office.keyed ≡ count_keyed (entries_of_rows office.live.table rows)
  pub refused : office.refused ≡ count_refused (entries_of_rows office.live.table rows)

-- an entry of a line, where it has marks
abbrev pub entry_of : ℕ → List Mark → List Entry
entry_of line [] = []
entry_of line (mark ∷ marks) = entry_on line (mark ∷ marks) ∷ []

-- the entry of this number, where there is one
abbrev pub numbered_by : ℕ → List Mark → Option ℕ → List Numbered
numbered_by line marks None = []
numbered_by line marks (Some number) = record { line = line; number = number; marks = marks } ∷ []
