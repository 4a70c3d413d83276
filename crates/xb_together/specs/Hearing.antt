-- What is heard in rows of one line whose record is open.
use Rattle.std.specs.Prelude.{◌≡◌, List, [], ◌∷◌, ◌++◌, false}
use Rattle.std.specs.List.{AllByRecursion}
use Rattle.xb_model.specs.declared.limits.Limits.{Limits}
use Rattle.xb_model.specs.declared.line.LineNo.{LineNo}
use Rattle.xb_model.specs.declared.on.On.{On}
use Rattle.xb_model.specs.declared.signal.Signal.{Signal}
use Rattle.xb_model.specs.declared.signal.Signal.TheVariants.{Close}
use Rattle.xb_model.specs.Lines.{row_line}
use Rattle.xb_model.specs.Records.{closes, record_up_to_close}
use Rattle.xb_model.specs.Rows.{LoopRow}
use Rattle.xb_model.specs.Signals.{signals_of}
use Rattle.xb_model.specs.OnLines.{on_line}

-- what was heard, and a close, are the signals of the rows
abbrev pub HearsOpenRecord : Limits → List LoopRow → List (On Signal) → Type 0
HearsOpenRecord limits rows heard =
    (line : LineNo)
    → AllByRecursion (λ row. row_line row ≡ line) rows
    → closes rows ≡ false
    → heard ++ on_line line (Close ∷ []) ≡ on_line line (signals_of limits (record_up_to_close rows))
