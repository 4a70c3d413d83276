use Rattle.xb_measured.proofs.Worked.{levels_are_as_worked}
use Rattle.xb_measured.proofs.laws.levels_are_as_worked.Goals as goal

pub returns : goal.returns
returns c = levels_are_as_worked
