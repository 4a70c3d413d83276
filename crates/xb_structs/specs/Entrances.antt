-- A line of which a caller tells what it hears, and one of which it tells the rows.
use Rattle.std.specs.Prelude.{◌≡◌, ℕ, List, [], ◌∷◌, ◌++◌, map, take}
use Rattle.xb_model.specs.declared.signal.Signal.{Signal}
use Rattle.xb_model.specs.declared.signal.Signal.TheVariants.{Close}
use Rattle.xb_model.specs.Records.{record_of}
use Rattle.xb_model.specs.Rows.{LoopRow, close_row}
use Rattle.xb_model.specs.Signals.{signals_of}
use Rattle.xb_routes.specs.Table.{Table}
use Rattle.xb_serial.specs.Promises.{tape_on}
use Rattle.xb_structs.specs.declared.line.PlainLine.{PlainLine}
use Rattle.xb_structs.specs.declared.mark.PlainMark.{PlainMark}
use Rattle.xb_structs.specs.HeardSignals.{as_heard}
use Rattle.xb_structs.specs.Hearing.{HasHeard}
use Rattle.xb_structs.specs.Marks.{mark_on}
use Rattle.xb_structs.specs.Taking.{TakesRow}

-- where the signals that a line has heard, and its close after them, are those of the record that any rows say,
-- each as a caller tells it, the line has given its tape by these rows
abbrev pub EntrancesAgree : Table → Type 0
EntrancesAgree table =
    (l : ℕ) (line closed : PlainLine) (signals : List Signal) (marks room : List PlainMark) (count : ℕ) (rows : List LoopRow)
    → HasHeard table l line signals marks → TakesRow table line closed (close_row l) room count
    → map as_heard (signals_of table.limits (record_of l rows)) ≡ signals ++ Close ∷ []
    → marks ++ take count room ≡ map (mark_on l) (tape_on table l rows)
