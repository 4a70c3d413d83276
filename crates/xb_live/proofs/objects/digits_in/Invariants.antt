use Rattle.std.proofs.Common.{◌≡◌, ◌++◌, drop}
use Rattle.xb_live.specs.Objects.{digits_in}
use Rattle.xb_live.proofs.objects.digits_in.Given as goal

abbrev pub invariant-loop-mark : goal.invariant-loop-mark
invariant-loop-mark l = l.digits.items ++ digits_in (drop l.mark-index l.marks) ≡ digits_in l.marks
