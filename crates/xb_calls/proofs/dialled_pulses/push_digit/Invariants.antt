use Rattle.std.proofs.Common.{◌≡◌, ◌++◌, ◌+◌, ◌-◌, ◌≤◌}
use Rattle.xb_calls.specs.Dialling.{on_line, pulse_count, pulses}
use Rattle.xb_calls.proofs.dialled_pulses.push_digit.Given as goal

-- the pulses that are left complete the digit
abbrev pub invariant-loop-pulse : goal.invariant-loop-pulse
invariant-loop-pulse l = record {
  within : l._pulse ≤ pulse_count l.fn.digit;
  rows :
      l.rows.items ++ on_line l.line (pulses l.speed (pulse_count l.fn.digit + 1 - l._pulse))
      ≡ l.initial.rows.items ++ on_line l.line (pulses l.speed (pulse_count l.fn.digit));
}
