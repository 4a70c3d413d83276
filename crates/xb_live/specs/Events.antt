-- The events of a line: a seizure, each digit, a time-out, a release, each in the row that makes it certain.
use Rattle.std.specs.Prelude.{ℕ, List, [], ◌∷◌, ◌++◌, drop, length, map}
use Rattle.std.specs.List.{flat_map}
use Rattle.xb_model.specs.declared.limits.Limits.{Limits}
use Rattle.xb_model.specs.declared.signal.Signal.{Signal}
use Rattle.xb_model.specs.Rows.{LoopRow}
use Rattle.xb_model.specs.Signals.{attempt_signals}
use Rattle.xb_routes.specs.Table.{Table}
use Rattle.xb_live.specs.declared.line_hearing.Hearing.{Hearing}
use Rattle.xb_live.specs.Times.{attempts_on, dialled_on, ms_on}

-- the signals of the attempts of line l; its close is none of them
abbrev pub signals_on : Limits → ℕ → List LoopRow → List Signal
signals_on limits l rows = flat_map (attempt_signals limits) (attempts_on limits l rows)

-- the signals that a row makes: those of its line's rows with it, past those without
abbrev pub made_by : Limits → List LoopRow → LoopRow → List Signal
made_by limits earlier row =
    drop (length (signals_on limits row.line earlier)) (signals_on limits row.line (earlier ++ row ∷ []))

-- a signal on its line, the ms of the line's rows up to and with the row that makes it, and what is dialled by then
pub record Event : Type 0 where
  pub line : ℕ
  pub at : ℕ
  pub dialled : List ℕ
  pub signal : Signal

abbrev pub event_line : Event → ℕ
event_line event = event.line

abbrev pub signal_in : Event → Signal
signal_in event = event.signal

-- a signal that the last of these rows makes
abbrev pub event_by : Table → List LoopRow → ℕ → Signal → Event
event_by table rows line signal =
    record {
      line = line;
      at = ms_on line rows;
      dialled = dialled_on table.plan table.limits line rows;
      signal = signal;
    }

-- the events that a row makes
abbrev pub events_by : Table → List LoopRow → LoopRow → List Event
events_by table earlier row = map (event_by table (earlier ++ row ∷ []) row.line) (made_by table.limits earlier row)

-- a signal with what is heard of its line
abbrev pub event_with : ℕ → Hearing → Signal → Event
event_with line heard signal =
    record { line = line; at = heard.at; dialled = heard.dialled; signal = signal }
