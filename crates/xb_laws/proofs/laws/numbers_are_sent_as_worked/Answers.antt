use Rattle.xb_laws.proofs.Worked.{are_sent_as_worked}
use Rattle.xb_laws.proofs.laws.numbers_are_sent_as_worked.Goals as goal

pub returns : goal.returns
returns c = are_sent_as_worked
