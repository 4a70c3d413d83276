use Rattle.xb_branches.proofs.Merged.{merged_prefix}
use Rattle.xb_ring.proofs.laws.prefix_of_merged.Goals as goal

pub returns : goal.returns
returns g c = λ n parts lists some prefix. merged_prefix g.O.Ending.ending n some parts lists prefix
