-- An entry with its times and what was dialled, in the row that completes it.
use Rattle.std.specs.Prelude.{ℕ, List, [], ◌∷◌, ◌++◌, drop, length, map}
use Rattle.xb_model.specs.declared.mark.Mark.{Mark}
use Rattle.xb_model.specs.Rows.{LoopRow}
use Rattle.xb_routes.specs.Table.{Table}
use Rattle.xb_live.specs.Entries.{Entry, Numbered, entries_of_rows, numbered_after}
use Rattle.xb_live.specs.declared.line_hearing.Hearing.{Hearing}
use Rattle.xb_live.specs.Times.{began_on, dialled_on, ms_on}

-- an entry, its number among those of its line, the ms of the line's rows before its attempt began and up to
-- and with the row that completes it, and what was dialled
pub record TimedEntry : Type 0 where
  pub line : ℕ
  pub number : ℕ
  pub marks : List Mark
  pub began : ℕ
  pub at : ℕ
  pub dialled : List ℕ

-- the entry alone
abbrev pub entry_in : TimedEntry → Numbered
entry_in told = record { line = told.line; number = told.number; marks = told.marks }

-- an entry that the last of these rows completes
abbrev pub told_by : Table → List LoopRow → Numbered → TimedEntry
told_by table rows entry =
    record {
      line = entry.line;
      number = entry.number;
      marks = entry.marks;
      began = began_on table.limits entry.line rows;
      at = ms_on entry.line rows;
      dialled = dialled_on table.plan table.limits entry.line rows;
    }

-- the entries that a row completes: those that rows complete with it, past those that they complete without
abbrev pub completed_by : Table → List LoopRow → LoopRow → List Entry
completed_by table earlier row =
    drop (length (entries_of_rows table earlier)) (entries_of_rows table (earlier ++ row ∷ []))

-- each with its number, times and digits
abbrev pub told_in : Table → List LoopRow → LoopRow → List TimedEntry
told_in table earlier row =
    map (told_by table (earlier ++ row ∷ []))
    (numbered_after (entries_of_rows table earlier) (completed_by table earlier row))

-- the entries that rows complete which come after earlier ones
unfoldable pub told_after : Table → List LoopRow → List LoopRow → List TimedEntry
told_after table earlier [] = []
told_after table earlier (row ∷ rows) = told_in table earlier row ++ told_after table (earlier ++ row ∷ []) rows

-- the entries that rows complete, in the order in which they do
abbrev pub told_of_rows : Table → List LoopRow → List TimedEntry
told_of_rows table rows = told_after table [] rows

-- an entry with what is heard of its line
abbrev pub told_with : ℕ → ℕ → List Mark → Hearing → TimedEntry
told_with line number marks heard =
    record {
      line = line;
      number = number;
      marks = marks;
      began = heard.began;
      at = heard.at;
      dialled = heard.dialled;
    }
