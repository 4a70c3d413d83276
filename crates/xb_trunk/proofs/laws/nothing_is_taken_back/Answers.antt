use Rattle.xb_trunk.proofs.Times.{nothing_is_taken_back}
use Rattle.xb_trunk.proofs.laws.nothing_is_taken_back.Goals as goal

pub returns : goal.returns
returns c = nothing_is_taken_back
