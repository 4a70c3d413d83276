use Rattle.std.proofs.Common.{◌≡◌, ◌++◌, ◌-◌, ◌≤◌}
use Rattle.xb_calls.specs.Dialling.{pulse_count}
use Rattle.xb_worn.specs.Sending.{pulses_from}
use Rattle.xb_worn.proofs.sending.pulses_of.Given as goal

-- the pulses that are left complete the digit
abbrev pub invariant-loop-before : goal.invariant-loop-before
invariant-loop-before l = record {
  within : l.before ≤ pulse_count l.fn.digit;
  rest :
      l.pulses.items ++ pulses_from l.wear l.faults l.place l.state l.before (pulse_count l.fn.digit - l.before)
      ≡ pulses_from l.wear l.faults l.place l.state 0 (pulse_count l.fn.digit);
}
