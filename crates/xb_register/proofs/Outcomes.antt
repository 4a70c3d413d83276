-- The outcomes that signals of one line give.
use Rattle.std.proofs.Common.{◌≡◌, List}
use Rattle.xb_model.specs.declared.line.LineNo.{LineNo}
use Rattle.xb_model.specs.declared.plan.Plan.{Plan}
use Rattle.xb_model.specs.declared.signal.Signal.{Signal}
use Rattle.xb_model.specs.declared.dialled.Dialled.{Dialled}
use Rattle.xb_model.specs.OnLines.{on_line, whats_from}
use Rattle.xb_model.proofs.OnLines.{image_from-whats}
use Rattle.xb_register.specs.declared.state.Phase.{Phase}
use Rattle.xb_register.specs.declared.state.Phase.TheVariants.{OnHook}
use Rattle.xb_register.specs.Machine.{phase_after, outcomes_by, machine}
use Rattle.xb_register.specs.Laws.{outcomes_given}

-- the outcomes that signals give, from a phase on
abbrev pub outcomes_from : Plan → Phase → List Signal → List Dialled
outcomes_from plan phase signals = whats_from (phase_after plan) (outcomes_by plan) phase signals

-- the stage gives those from on-hook, on the line
pub outcomes_given-machine : (plan : Plan) (line : LineNo) (signals : List Signal)
    → outcomes_given (machine plan) line signals ≡ on_line line (outcomes_from plan OnHook signals)
outcomes_given-machine plan line signals =
    image_from-whats OnHook (phase_after plan) (outcomes_by plan) line OnHook signals
