-- The loops and the registers of all lines, and what they have taken.
use Rattle.std.specs.Prelude.{◌≡◌, List}
use Rattle.xb_model.specs.declared.dialled.Dialled.{Dialled}
use Rattle.xb_model.specs.declared.limits.Limits.{Limits}
use Rattle.xb_model.specs.declared.on.On.{On}
use Rattle.xb_model.specs.declared.plan.Plan.{Plan}
use Rattle.xb_model.specs.declared.signal.Signal.{Signal}
use Rattle.xb_model.specs.Lines.{row_line, on_line_of}
use Rattle.xb_model.specs.Rows.{LoopRow}
use Rattle.xb_model.specs.Image.{image}
use Rattle.xb_model.specs.States.{AreStates}
use Rattle.xb_pulse.specs.declared.state.PulseState.{PulseState}
use Rattle.xb_pulse.specs.Machine.{machine as pulse_machine}
use Rattle.xb_register.specs.declared.state.RegisterState.{RegisterState}
use Rattle.xb_register.specs.Machine.{machine as register_machine}

-- the plan of the numbers, the state of each line's register, and what came of attempts
pub record Dialling : Type 0 where
  pub plan : Plan
  pub lines : List RegisterState
  pub dialled : List (On Dialled)

-- these are the signals that the registers have taken so far
pub record HasDialled (plan : Plan) (dialling : Dialling) (signals : List (On Signal)) : Type 0 where
  pub plan_is : dialling.plan ≡ plan
  pub states : AreStates on_line_of (register_machine plan) dialling.lines signals
  pub dialled : dialling.dialled ≡ image on_line_of (register_machine plan) signals

-- the limits of the pulses, the state of each line's loop, and the registers after them
pub record Hearing : Type 0 where
  pub limits : Limits
  pub lines : List PulseState
  pub registers : Dialling

-- these are the rows that the loops have taken so far, and the registers took the signals of them
pub record HasHeard (limits : Limits) (plan : Plan) (hearing : Hearing) (rows : List LoopRow) : Type 0 where
  pub limits_are : hearing.limits ≡ limits
  pub states : AreStates row_line (pulse_machine limits) hearing.lines rows
  pub registers : HasDialled plan hearing.registers (image row_line (pulse_machine limits) rows)
