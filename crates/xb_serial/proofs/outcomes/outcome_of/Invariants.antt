use Rattle.std.proofs.Common.{◌≡◌, ◌++◌, drop, fold}
use Rattle.std.specs.Option.{option_to_list}
use Rattle.xb_model.specs.OnLines.{whats_from}
use Rattle.xb_register.specs.Machine.{outcomes_by, phase_after}
use Rattle.xb_serial.proofs.outcomes.outcome_of.Given as goal

abbrev pub invariant-loop-signal : goal.invariant-loop-signal
invariant-loop-signal l = record {
  outcome : option_to_list l.outcome ++ whats_from (phase_after l.register) (outcomes_by l.register) l.state (drop l.signal-index l.signals) ≡ whats_from (phase_after l.register) (outcomes_by l.register) l.initial.state l.signals;
  state : fold (phase_after l.register) l.state (drop l.signal-index l.signals) ≡ fold (phase_after l.register) l.initial.state l.signals;
}
