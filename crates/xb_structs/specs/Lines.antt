-- The state that a line has by its plain numbers.
use Rattle.std.specs.Prelude.{not, ◌==◌}
use Rattle.xb_model.specs.declared.digits.TheConstants.{NUMBER_DIGITS}
use Rattle.xb_pulse.specs.declared.state.Phase.{Phase as PulsePhase}
use Rattle.xb_pulse.specs.Plain.{phase_of as pulse_of}
use Rattle.xb_register.specs.declared.state.Phase.{Phase as RegisterPhase}
use Rattle.xb_register.specs.Plain.{phase_of as register_of}
use Rattle.xb_serial.specs.declared.line.Line.{Line}
use Rattle.xb_serial.specs.Chain.{line_state}
use Rattle.xb_structs.specs.declared.line.PlainLine.{PlainLine}
use Rattle.xb_structs.specs.declared.line.PulsePart.{PulsePart}
use Rattle.xb_structs.specs.declared.line.RegisterPart.{RegisterPart}
use Rattle.xb_structs.specs.Digits.{digits_in}

abbrev pub pulse_in : PulsePart → PulsePhase
pulse_in part =
    pulse_of (record { phase = part.phase; total = part.total; breaks = part.breaks; bad = not (part.bad == 0) })

abbrev pub register_in : RegisterPart → RegisterPhase
register_in part =
    register_of (record { phase = part.phase; digits = digits_in NUMBER_DIGITS part.count part.digits })

abbrev pub state_in : PlainLine → Line
state_in line = line_state (pulse_in line.pulse) (register_in line.register)
