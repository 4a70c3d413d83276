use Rattle.xb_flow.proofs.Rings.{pair_kept}
use Rattle.xb_ring.proofs.laws.pair_stays.Goals as goal

pub returns : goal.returns
returns g c = λ p q c' d. pair_kept p q c' d
