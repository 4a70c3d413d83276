-- The four stages in one pass over the rows of a line: what a row gives, and the state in which it
-- leaves the line.
use Rattle.std.specs.Prelude.{List, fold}
use Rattle.std.specs.List.{flat_map}
use Rattle.xb_model.specs.declared.dialled.Dialled.{Dialled}
use Rattle.xb_model.specs.declared.mark.Mark.{Mark}
use Rattle.xb_model.specs.declared.on.On.{On}
use Rattle.xb_model.specs.declared.signal.Signal.{Signal}
use Rattle.xb_model.specs.Keyings.{marks_of}
use Rattle.xb_model.specs.Routing.{order_of}
use Rattle.xb_model.specs.Rows.{LoopRow}
use Rattle.xb_model.specs.Image.{Machine, image_from}
use Rattle.xb_model.specs.OnLines.{on_line}
use Rattle.xb_pulse.specs.declared.state.PulseState.{PulseState}
use Rattle.xb_pulse.specs.Machine.{machine as pulse_machine}
use Rattle.xb_register.specs.declared.state.RegisterState.{RegisterState}
use Rattle.xb_register.specs.Machine.{machine as register_machine}
use Rattle.xb_routes.specs.Table.{Table}
use Rattle.xb_serial.specs.declared.line.Line.{Line}

abbrev pub line_state : PulseState → RegisterState → Line
line_state pulse register = record { pulse = pulse; register = register }

-- a line before its first row
abbrev pub fresh_line : Table → Line
fresh_line table = line_state (pulse_machine table.limits).start (register_machine table.plan).start

-- the signals that a row sends
abbrev pub signals_of_row : Table → Line → LoopRow → List (On Signal)
signals_of_row table state row = (pulse_machine table.limits).outs state.pulse row

-- what comes of attempts by them
abbrev pub outcomes_of_row : Table → Line → LoopRow → List (On Dialled)
outcomes_of_row table state row =
    image_from (register_machine table.plan) state.register (signals_of_row table state row)

-- the marks of an outcome, on its line
abbrev pub keyed : Table → On Dialled → List (On Mark)
keyed table outcome = on_line outcome.line (marks_of (order_of table.routes outcome.what))

-- the marks that a row gives
abbrev pub marks_of_row : Table → Line → LoopRow → List (On Mark)
marks_of_row table state row = flat_map (keyed table) (outcomes_of_row table state row)

-- the state after a row
abbrev pub state_after_row : Table → Line → LoopRow → Line
state_after_row table state row =
    line_state ((pulse_machine table.limits).next state.pulse row)
    (fold (register_machine table.plan).next state.register (signals_of_row table state row))

-- what an office does on one line
abbrev pub live_machine : Table → Machine LoopRow (On Mark) Line
live_machine table = record {
  start = fresh_line table;
  next = state_after_row table;
  outs = marks_of_row table;
}
