-- The rows of a line as the clock of its trunk.
use Rattle.std.specs.Prelude.{◌==◌, ℕ, List, [], ◌∷◌, ◌++◌, if◌then◌else◌}
use Rattle.std.specs.List.{flat_map}
use Rattle.xb_model.specs.declared.mark.Mark.{Mark}
use Rattle.xb_model.specs.Rows.{LoopRow}
use Rattle.xb_routes.specs.Table.{Table}
use Rattle.xb_trunk.specs.Sounded.{Step, step_of}
use Rattle.xb_live.specs.Entries.{Entry}
use Rattle.xb_live.specs.TimedEntries.{completed_by}

-- the marks of the entry that a row after earlier ones completes, if it does
abbrev pub marks_by : Table → List LoopRow → LoopRow → List Mark
marks_by table earlier row = flat_map (λ (entry : Entry). entry.what) (completed_by table earlier row)

-- a row of the line is a step of its trunk's clock, and one of another line is none
abbrev pub steps_in : Table → ℕ → List LoopRow → LoopRow → List Step
steps_in table line earlier row = if row.line == line then step_of row.ms (marks_by table earlier row) ∷ [] else []

-- the steps of rows that come after earlier ones
unfoldable pub steps_after : Table → ℕ → List LoopRow → List LoopRow → List Step
steps_after table line earlier [] = []
steps_after table line earlier (row ∷ rows) =
    steps_in table line earlier row ++ steps_after table line (earlier ++ row ∷ []) rows

-- the steps of rows
abbrev pub steps_of : Table → ℕ → List LoopRow → List Step
steps_of table line rows = steps_after table line [] rows
