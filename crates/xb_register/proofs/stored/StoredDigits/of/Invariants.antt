use Rattle.std.proofs.Common.{◌≡◌, take}
use Rattle.xb_register.proofs.stored.StoredDigits.of.Given as goal

abbrev pub invariant-loop-digit : goal.invariant-loop-digit
invariant-loop-digit l = l.stored ≡ take l.digit-index l.digits
