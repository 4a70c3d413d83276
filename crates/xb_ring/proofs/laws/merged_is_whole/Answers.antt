use Rattle.xb_branches.proofs.Merged.{merged_whole}
use Rattle.xb_ring.proofs.laws.merged_is_whole.Goals as goal

pub returns : goal.returns
returns g c = λ n f items some whole. merged_whole g.O.Ending.ending n some f whole items
