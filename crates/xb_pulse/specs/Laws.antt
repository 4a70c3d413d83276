-- What the pulse stage hears in the rows of a line's loop. A stage is given by its
-- machine, and lawful limits are those that it judges by.
use Rattle.std.specs.Prelude.{◌≡◌, List, [], ◌∷◌, ◌++◌, true, false}
use Rattle.std.specs.List.{AllByRecursion}
use Rattle.xb_model.specs.declared.limits.Limits.{Limits}
use Rattle.xb_model.specs.declared.line.LineNo.{LineNo}
use Rattle.xb_model.specs.declared.on.On.{On}
use Rattle.xb_model.specs.declared.signal.Signal.{Signal}
use Rattle.xb_model.specs.declared.signal.Signal.TheVariants.{Close}
use Rattle.xb_model.specs.LawfulLimits.{IsLawful}
use Rattle.xb_model.specs.Lines.{row_line, on_line_of, of_line}
use Rattle.xb_model.specs.Records.{closes, rows_of, record_up_to_close, record_of}
use Rattle.xb_model.specs.Rows.{LoopRow}
use Rattle.xb_model.specs.Signals.{signals_of}
use Rattle.xb_model.specs.Image.{Machine, image, image_on}
use Rattle.xb_model.specs.OnLines.{on_line}

-- what rows of all lines give on one of them
abbrev pub heard_on : {S : Type 0} → Machine LoopRow (On Signal) S → LineNo → List LoopRow → List (On Signal)
heard_on machine line rows = of_line on_line_of line (image row_line machine rows)

-- rows of one line, whose record is closed, give the signals of the record
abbrev pub HearsTheRecord : {S : Type 0} → Limits → Machine LoopRow (On Signal) S → Type 0
HearsTheRecord limits machine =
    (line : LineNo) (rows : List LoopRow)
    → IsLawful limits
    → AllByRecursion (λ row. row_line row ≡ line) rows
    → closes rows ≡ true
    → image_on machine rows ≡ on_line line (signals_of limits (record_up_to_close rows))

-- while the record is open, what they give and a close are the signals of the rows so far
abbrev pub HearsSoFar : {S : Type 0} → Limits → Machine LoopRow (On Signal) S → Type 0
HearsSoFar limits machine =
    (line : LineNo) (rows : List LoopRow)
    → IsLawful limits
    → AllByRecursion (λ row. row_line row ≡ line) rows
    → closes rows ≡ false
    → image_on machine rows ++ on_line line (Close ∷ [])
    ≡ on_line line (signals_of limits (record_up_to_close rows))

-- among the rows of all lines, those of a line whose record is closed give the signals of the record
abbrev pub HearsTheRecordOfEach : {S : Type 0} → Limits → Machine LoopRow (On Signal) S → Type 0
HearsTheRecordOfEach limits machine =
    (line : LineNo) (rows : List LoopRow)
    → IsLawful limits
    → closes (rows_of line rows) ≡ true
    → heard_on machine line rows ≡ on_line line (signals_of limits (record_of line rows))

-- while that line's record is open, what they give and a close are the signals of its rows so far
abbrev pub HearsSoFarOfEach : {S : Type 0} → Limits → Machine LoopRow (On Signal) S → Type 0
HearsSoFarOfEach limits machine =
    (line : LineNo) (rows : List LoopRow)
    → IsLawful limits
    → closes (rows_of line rows) ≡ false
    → heard_on machine line rows ++ on_line line (Close ∷ [])
    ≡ on_line line (signals_of limits (record_of line rows))
