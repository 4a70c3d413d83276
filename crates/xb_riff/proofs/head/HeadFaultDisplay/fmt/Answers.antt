use Rattle.std.proofs.Common.{append_assoc}
use Rattle.std.proofs.Output.{has_written_of_eq}
use Rattle.xb_riff.proofs.head.HeadFaultDisplay.fmt.Goals as goal

pub returns-in-Coding-clause-writes : goal.returns-in-Coding-clause-writes
returns-in-Coding-clause-writes g c = λ plain ok.
    rw c.in-Coding.is (has_written_of_eq _ _ _ _ _ (simp append_assoc) (c.write.ensures.writes plain ok))

pub returns-in-Block-clause-writes : goal.returns-in-Block-clause-writes
returns-in-Block-clause-writes g c = λ plain ok.
    rw c.in-Block.is (has_written_of_eq _ _ _ _ _ (simp append_assoc) (c.write-in-Block.ensures.writes plain ok))
