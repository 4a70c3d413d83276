use Rattle.std.proofs.Common.{◌≡◌, ◌++◌, ◌+◌, drop}
use Rattle.xb_worn.specs.Sending.{sent_digits}
use Rattle.xb_worn.proofs.sending.push_digits.Given as goal

-- the digits that are left complete the call
abbrev pub invariant-loop-digit : goal.invariant-loop-digit
invariant-loop-digit l = record {
  counts : l.number ≡ l.digit-index + 1;
  rest :
      l.pulses.items ++ sent_digits l.wear l.faults l.call l.state l.number (drop l.digit-index l.digits)
      ≡ l.initial.pulses.items ++ sent_digits l.wear l.faults l.call l.seed 1 l.digits;
}
