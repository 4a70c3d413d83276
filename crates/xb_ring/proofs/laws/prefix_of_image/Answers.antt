use Rattle.xb_station.proofs.ImagePrefixes.{image-prefix, flow_image-prefix}
use Rattle.xb_ring.proofs.laws.prefix_of_image.Goals as goal

pub returns-clause-items : goal.returns-clause-items
returns-clause-items g c = λ stage part whole prefix. image-prefix _ _ part whole prefix

pub returns-clause-flow : goal.returns-clause-flow
returns-clause-flow g c = λ stage part whole prefix. flow_image-prefix _ _ part whole prefix
