-- What is left to be fed of further rows, where the rows before them left the lines so.
use Rattle.std.specs.Prelude.{ℕ, List, [], ◌++◌, map, Bool, not, Option, Some, None}
use Rattle.std.specs.List.{filter}
use Rattle.xb_model.specs.declared.fault.RowFault.{RowFault}
use Rattle.xb_model.specs.declared.line.TheConstants.{LINES}
use Rattle.xb_model.specs.Lines.{lines_below}
use Rattle.xb_model.specs.Rows.{LoopRow, close_row}
use Rattle.xb_model.specs.Records.{rows_of}
use Rattle.xb_closes.specs.Fed.{kept}
use Rattle.xb_closes.specs.LineUses.{is_closed, is_open_use, use_after, use_at}
use Rattle.xb_closes.specs.declared.line_use.LineUse.{LineUse}

-- of further rows, those of lines that are not closed
abbrev pub kept_in : List LineUse → List LoopRow → List LoopRow
kept_in uses rows = filter (λ row. not (is_closed (use_at uses row.line))) (kept rows)

-- whether line l is open after further rows
abbrev pub open_after : List LineUse → List LoopRow → ℕ → Bool
open_after uses rows l = is_open_use (use_after (use_at uses l) (rows_of l rows))

-- a close for each line that is open after further rows which end, ascending
abbrev pub closings_in : List LineUse → List LoopRow → Option RowFault → List LoopRow
closings_in uses rows None = map close_row (filter (open_after uses rows) (lines_below LINES))
closings_in uses rows (Some fault) = []

-- what is left to be fed of further rows with this stop after them
unfoldable pub left : List LineUse → List LoopRow → Option RowFault → List LoopRow
left uses rows stop = kept_in uses rows ++ closings_in uses rows stop
