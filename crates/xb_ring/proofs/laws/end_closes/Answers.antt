use Rattle.xb_station.proofs.ImagePrefixes.{flow_image-closed}
use Rattle.xb_ring.proofs.laws.end_closes.Goals as goal

pub returns : goal.returns
returns g c = λ stage items rest. flow_image-closed _ _ items rest
