use Rattle.xb_worn.proofs.HeardLines.{outcomes_are_heard}
use Rattle.xb_worn.proofs.laws.outcomes_are_heard.Goals as goal

pub returns : goal.returns
returns c = outcomes_are_heard
