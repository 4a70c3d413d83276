-- The other entrance of a line: its signals, in place of its rows.
use Rattle.std.specs.Prelude.{◌≡◌, ℕ, List, ◌∷◌, [], fold, map}
use Rattle.std.specs.List.{AllByRecursion, flat_map}
use Rattle.xb_model.specs.declared.dialled.Dialled.{Dialled}
use Rattle.xb_model.specs.declared.mark.Mark.{Mark}
use Rattle.xb_model.specs.declared.on.On.{On}
use Rattle.xb_model.specs.declared.signal.Signal.{Signal}
use Rattle.xb_model.specs.Image.{Machine, image_on}
use Rattle.xb_model.specs.Keyings.{marks_of}
use Rattle.xb_model.specs.Lines.{row_line}
use Rattle.xb_model.specs.OnLines.{on_line, whats_from}
use Rattle.xb_model.specs.Records.{record_of}
use Rattle.xb_model.specs.Routing.{order_of}
use Rattle.xb_model.specs.Rows.{LoopRow}
use Rattle.xb_model.specs.Signals.{signals_of}
use Rattle.xb_pulse.specs.Machine.{machine as pulse_machine}
use Rattle.xb_register.specs.declared.state.RegisterState.{RegisterState}
use Rattle.xb_register.specs.Machine.{outcomes_by, phase_after}
use Rattle.xb_routes.specs.Table.{Table}
use Rattle.xb_serial.specs.declared.line.Line.{Line}
use Rattle.xb_serial.specs.Chain.{fresh_line, line_state, live_machine}
use Rattle.xb_serial.specs.Office.{marks_of_rows}
use Rattle.xb_serial.specs.Promises.{tape_on}

-- the marks of an outcome
abbrev pub entry_of : Table → Dialled → List Mark
entry_of table outcome = marks_of (order_of table.routes outcome)

-- the outcomes that signals bring, from a state of the register on
abbrev pub outcomes_from : Table → RegisterState → List Signal → List Dialled
outcomes_from table register signals = whats_from (phase_after table.plan) (outcomes_by table.plan) register signals

-- the marks that signals give
abbrev pub marks_from : Table → RegisterState → List Signal → List Mark
marks_from table register signals = flat_map (entry_of table) (outcomes_from table register signals)

-- the state after signals: what is known of the loop stays
abbrev pub state_after_signals : Table → Line → List Signal → Line
state_after_signals table state signals =
    line_state state.pulse (fold (phase_after table.plan) state.register signals)

-- the marks that one signal gives
abbrev pub marks_of_signal : Table → RegisterState → Signal → List Mark
marks_of_signal table register signal = flat_map (entry_of table) (outcomes_by table.plan register signal)

-- the state after one signal
abbrev pub state_after_signal : Table → Line → Signal → Line
state_after_signal table state signal = line_state state.pulse (phase_after table.plan state.register signal)

-- what an office does on one line of which it is told the signals
abbrev pub signal_machine : Table → Machine Signal Mark Line
signal_machine table = record {
  start = fresh_line table;
  next = state_after_signal table;
  outs = λ state signal. marks_of_signal table state.register signal;
}

-- the marks of a line of which these signals are told, one by one
abbrev pub marks_of_signals : Table → List Signal → List Mark
marks_of_signals table signals = image_on (signal_machine table) signals

-- the signals that rows of one line send
abbrev pub signals_sent : Table → List LoopRow → List Signal
signals_sent table rows = map (λ (signal : On Signal). signal.what) (image_on (pulse_machine table.limits) rows)

-- the state of the register after rows, and after signals
abbrev pub register_after_rows : Table → List LoopRow → RegisterState
register_after_rows table rows =
    let state = fold (live_machine table).next (fresh_line table) rows in state.register

abbrev pub register_after_signals : Table → List Signal → RegisterState
register_after_signals table signals =
    let state = fold (signal_machine table).next (fresh_line table) signals in state.register

-- it does not matter by which entrance a line comes in
pub record EntrancesAgree (table : Table) : Type 0 where
  -- the signals of a line's whole record give its tape
  pub whole : (l : ℕ) (rows : List LoopRow)
      → marks_of_signals table (signals_of table.limits (record_of l rows)) ≡ tape_on table l rows
  -- the signals that any rows of a line have sent so far give the marks of these rows
  pub so_far : (l : ℕ) (rows : List LoopRow) → AllByRecursion (λ row. row_line row ≡ l) rows
      → on_line l (marks_of_signals table (signals_sent table rows)) ≡ marks_of_rows table rows
  -- and leave the register as the rows do
  pub register : (l : ℕ) (rows : List LoopRow) → AllByRecursion (λ row. row_line row ≡ l) rows
      → register_after_signals table (signals_sent table rows) ≡ register_after_rows table rows
