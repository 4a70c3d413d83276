use Rattle.std.proofs.Common.{ap, append_assoc, sym}
use Rattle.std.proofs.Output.{has_written_of_eq}
use Rattle.xb_calls.specs.FaultTexts.{call_text}
use Rattle.xb_calls.proofs.fault.CallFaultDisplay.fmt.Goals as goal

pub returns-in-Line-clause-writes : goal.returns-in-Line-clause-writes
returns-in-Line-clause-writes g c = λ plain ok.
    rw c.in-Line.is (has_written_of_eq _ _ _ _ _ (simp append_assoc) (c.write.ensures.writes plain ok))

pub returns-in-Digit-clause-writes : goal.returns-in-Digit-clause-writes
returns-in-Digit-clause-writes g c = λ plain ok.
    rw (c.in-Digit.is, append_assoc) (c.write-in-Digit.ensures.writes plain ok)

pub returns-in-NoDigits-clause-writes : goal.returns-in-NoDigits-clause-writes
returns-in-NoDigits-clause-writes g c = λ plain ok.
    has_written_of_eq _ _ _ _ _ (ap call_text (sym c.in-NoDigits.is)) (c.write-in-NoDigits.ensures.writes plain ok)

pub returns-in-Unfinished-clause-writes : goal.returns-in-Unfinished-clause-writes
returns-in-Unfinished-clause-writes g c = λ plain ok.
    has_written_of_eq _ _ _ _ _ (ap call_text (sym c.in-Unfinished.is)) (c.write-in-Unfinished.ensures.writes plain ok)

pub returns-in-GoesOn-clause-writes : goal.returns-in-GoesOn-clause-writes
returns-in-GoesOn-clause-writes g c = λ plain ok.
    has_written_of_eq _ _ _ _ _ (ap call_text (sym c.in-GoesOn.is)) (c.write-in-GoesOn.ensures.writes plain ok)
