-- What rows leave of a line, and give.
use Rattle.std.specs.Prelude.{◌≡◌, ℕ, ◌+◌, ◌-◌, ◌^◌, ◌<◌, List, [], ◌∷◌, ◌++◌, Ok, Err, fold, length, map, min, take}
use Rattle.std.specs.List.{AllByRecursion, count_by}
use Rattle.xb_model.specs.declared.mark.Mark.{Mark}
use Rattle.xb_model.specs.declared.stage.TheConstants.{MOST_OUTPUTS}
use Rattle.xb_model.specs.declared.on.On.{On}
use Rattle.xb_model.specs.Keyings.{is_ending}
use Rattle.xb_model.specs.Rows.{LoopRow}
use Rattle.xb_model.specs.Image.{image_on}
use Rattle.xb_routes.specs.Table.{Table}
use Rattle.xb_serial.specs.Chain.{live_machine, marks_of_row, state_after_row}
use Rattle.xb_structs.specs.declared.line.PlainLine.{PlainLine}
use Rattle.xb_structs.specs.declared.mark.PlainMark.{PlainMark}
use Rattle.xb_structs.specs.declared.refusal.Refusal.{Refusal}
use Rattle.xb_structs.specs.declared.refusal.Refusal.TheVariants.{NotOpened, Line, State, Ms, Room}
use Rattle.xb_structs.specs.declared.row.PlainRow.{PlainRow}
use Rattle.xb_structs.specs.declared.table.PlainTable.{PlainTable}
use Rattle.xb_structs.specs.Lines.{state_in}
use Rattle.xb_structs.specs.Marks.{plain_mark}
use Rattle.xb_structs.specs.Rows.{row_in}
use Rattle.xb_structs.specs.Tables.{Holds, IsOpen}

-- how many entries there are among marks: each ends with one mark that ends an entry
abbrev pub entries_among : List (On Mark) → ℕ
entries_among marks = count_by (λ mark. is_ending mark.what) marks

-- a count of entries, which stops where its number does
abbrev pub counted : ℕ → ℕ
counted n = min n (2 ^ 32 - 1)

-- by a table: the line is in the state after the row, and so many at the front of the room are its marks
pub record TakesRow (table : Table) (old new : PlainLine) (row : LoopRow) (room : List PlainMark) (count : ℕ) : Type 0 where
  pub state : state_in new ≡ state_after_row table (state_in old) row
  pub marks : take count room ≡ map plain_mark (marks_of_row table (state_in old) row)
  pub entries : new.entries ≡ counted (old.entries + entries_among (marks_of_row table (state_in old) row))

-- what a line knows and has given is what the chain on one line makes of these rows, by a table: its state,
-- the marks, and the count of their entries
pub record HasTaken (table : Table) (line : PlainLine) (rows : List LoopRow) (marks : List PlainMark) : Type 0 where
  pub state : state_in line ≡ fold (live_machine table).next (live_machine table).start rows
  pub given : marks ≡ map plain_mark (image_on (live_machine table) rows)
  pub entries : line.entries ≡ counted (entries_among (image_on (live_machine table) rows))

-- a row of an open table that is wrong itself
abbrev pub IsWrongRow : PlainTable → PlainRow → Refusal → Type 0
IsWrongRow table row refusal = IsOpen table × (row_in row ≡ Err refusal)

-- the row, by an open table, gives more marks than there is room for; 24 are always enough
pub record HasNoRoom (plain : PlainTable) (row : PlainRow) (line : PlainLine) (room : ℕ) : Type 0 where
  pub is_open : IsOpen plain
  pub taken : LoopRow
  pub says : row_in row ≡ Ok taken
  pub few : room < MOST_OUTPUTS
  pub less : (table : Table) → Holds plain table → room < length (marks_of_row table (state_in line) taken)

-- when each refusal comes
abbrev pub IsRefused : Refusal → PlainTable → PlainRow → PlainLine → ℕ → Type 0
IsRefused NotOpened table row line room = IsOpen table → ⊥
IsRefused Line table row line room = IsWrongRow table row Line
IsRefused State table row line room = IsWrongRow table row State
IsRefused Ms table row line room = IsWrongRow table row Ms
IsRefused Room table row line room = HasNoRoom table row line room

-- the row that the numbers say was taken, by an open table: by the table that it holds, so many marks at the
-- front of the room are those of the row, on its line, and the line has taken one row more
pub record Takes (plain : PlainTable) (old new : PlainLine) (row : PlainRow) (room : List PlainMark) (count : ℕ) : Type 0 where
  pub is_open : IsOpen plain
  pub taken : LoopRow
  pub says : row_in row ≡ Ok taken
  pub takes : (table : Table) → Holds plain table → TakesRow table old new taken room count
  pub goes_on : (table : Table) → Holds plain table → (rows : List LoopRow) (marks : List PlainMark)
      → HasTaken table old rows marks → HasTaken table new (rows ++ taken ∷ []) (marks ++ take count room)
  pub on_line : (table : Table) → Holds plain table
      → AllByRecursion (λ mark. mark.line ≡ taken.line) (take count room)
