use Rattle.xb_worn.proofs.SpoiledCalls.{one_outcome}
use Rattle.xb_worn.proofs.laws.one_outcome_of_a_call.Goals as goal

pub returns : goal.returns
returns c = one_outcome
