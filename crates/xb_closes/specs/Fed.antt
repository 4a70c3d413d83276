-- The fed rows: those that are heard, and the closes that the records lack.
use Rattle.std.specs.Prelude.{ℕ, List, [], ◌∷◌, ◌++◌, map, Bool, true, false, not, ◌&&◌, ◌==◌, if◌then◌else◌, Option, Some, None}
use Rattle.std.specs.List.{filter}
use Rattle.xb_model.specs.declared.fault.RowFault.{RowFault}
use Rattle.xb_model.specs.declared.line.TheConstants.{LINES}
use Rattle.xb_model.specs.Lines.{lines_below}
use Rattle.xb_model.specs.Rows.{LoopRow, close_row}
use Rattle.xb_model.specs.Records.{is_close, closes, rows_of}

-- the rows that are not on line l
abbrev pub without : ℕ → List LoopRow → List LoopRow
without l rows = filter (λ row. not (row.line == l)) rows

-- what is heard after a row: after a close nothing more of its line
abbrev pub after : LoopRow → List LoopRow → List LoopRow
after row rows = if is_close row.contact then without row.line rows else rows

-- the rows without those of a line after its close
abbrev pub kept : List LoopRow → List LoopRow
kept [] = []
kept (row ∷ rows) = row ∷ after row (kept rows)

abbrev pub has_rows : List LoopRow → Bool
has_rows [] = false
has_rows (row ∷ rows) = true

-- line l has rows, and no close
abbrev pub is_open : List LoopRow → ℕ → Bool
is_open rows l = has_rows (rows_of l rows) && not (closes (rows_of l rows))

-- a close for each open line below n, ascending
abbrev pub closings_below : ℕ → List LoopRow → List LoopRow
closings_below n rows = map close_row (filter (is_open rows) (lines_below n))

-- the closes that rows lack which end: one for each line of the office that has rows and none; rows
-- that a fault stopped get no closes
abbrev pub closings : List LoopRow → Option RowFault → List LoopRow
closings rows None = closings_below LINES rows
closings rows (Some fault) = []

-- the rows that are fed, of rows with this stop after them: those without the ones of a line after
-- its close, and then the closes that they lack
abbrev pub fed : List LoopRow → Option RowFault → List LoopRow
fed rows stop = kept rows ++ closings rows stop
