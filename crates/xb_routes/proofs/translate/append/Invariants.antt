use Rattle.std.proofs.Common.{◌≡◌, ◌++◌, take}
use Rattle.xb_routes.proofs.translate.append.Given as goal

abbrev pub invariant-loop-digit : goal.invariant-loop-digit
invariant-loop-digit l = l.keyed ≡ l.initial.keyed ++ take l.digit-index l.digits
