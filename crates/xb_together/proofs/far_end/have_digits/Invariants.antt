use Rattle.std.proofs.Common.{take}
use Rattle.xb_together.specs.FarEnd.{HaveDigits}
use Rattle.xb_together.proofs.far_end.have_digits.Given as goal

abbrev pub invariant-loop-mark : goal.invariant-loop-mark
invariant-loop-mark l = HaveDigits (take l.mark-index l.marks)
