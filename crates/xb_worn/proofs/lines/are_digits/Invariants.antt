use Rattle.std.proofs.Common.{take}
use Rattle.xb_calls.specs.Calls.{AreDigits}
use Rattle.xb_worn.proofs.lines.are_digits.Given as goal

abbrev pub invariant-loop-digit : goal.invariant-loop-digit
invariant-loop-digit l = AreDigits (take l.digit-index l.digits)
