use Rattle.std.proofs.Common.{◌≡◌, take}
use Rattle.xb_model.proofs.digits.DigitList.of.Given as goal

abbrev pub invariant-loop-digit : goal.invariant-loop-digit
invariant-loop-digit g l = l.list ≡ take l.digit-index l.digits
