use Rattle.std.proofs.Common.{append_assoc}
use Rattle.std.proofs.Output.{has_written_of_eq}
use Rattle.xb_live.proofs.fault.EntriesFaultDisplay.fmt.Goals as goal

pub returns-in-Late-clause-writes : goal.returns-in-Late-clause-writes
returns-in-Late-clause-writes g c = λ plain ok.
    rw c.in-Late.is (has_written_of_eq _ _ _ _ _ (simp append_assoc) (c.write.ensures.writes plain ok))

pub returns-in-LateEvent-clause-writes : goal.returns-in-LateEvent-clause-writes
returns-in-LateEvent-clause-writes g c = λ plain ok.
    rw c.in-LateEvent.is (has_written_of_eq _ _ _ _ _ (simp append_assoc) (c.write-in-LateEvent.ensures.writes plain ok))
