use Rattle.std.proofs.Common.{take}
use Rattle.xb_tape.specs.GatheredMarks.{AreTapes}
use Rattle.xb_serial.proofs.serial.tapes_of_marks.Given as goal

abbrev pub invariant-loop-mark : goal.invariant-loop-mark
invariant-loop-mark l = AreTapes l.tapes (take l.mark-index l.marks)
