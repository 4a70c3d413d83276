use Rattle.std.proofs.Common.{None, take}
use Rattle.xb_riff.specs.Heads.{TakesHead}
use Rattle.xb_riff.proofs.head.WavHead.take.Given as goal

abbrev pub invariant-loop-i : goal.invariant-loop-i
invariant-loop-i l = TakesHead l.initial.self (take l.i l.bytes) None l.self
