use Rattle.xb_branches.proofs.MergedImages.{merged-stateless}
use Rattle.xb_ring.proofs.laws.merged_images.Goals as goal

pub returns : goal.returns
returns g c = λ ends n f items some whole. merged-stateless ends n some f items whole
