use Rattle.xb_incoming.proofs.Worked.{are_as_worked}
use Rattle.xb_incoming.proofs.laws.outcomes_are_as_worked.Goals as goal

pub returns : goal.returns
returns c = are_as_worked
