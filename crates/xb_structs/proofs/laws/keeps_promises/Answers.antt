use Rattle.xb_model.specs.Image.{image_on}
use Rattle.xb_serial.specs.Chain.{live_machine}
use Rattle.xb_serial.proofs.Fusion.{fusion-one}
use Rattle.xb_serial.proofs.Promises.{chain_keeps_promises}
use Rattle.xb_structs.proofs.laws.keeps_promises.Goals as goal

pub returns : goal.returns
returns c = λ table line l rows marks lawful on taken. (
  image_on (live_machine table) rows,
  taken.given,
  chain_keeps_promises table lawful rows _ (fusion-one table l rows on),
)
