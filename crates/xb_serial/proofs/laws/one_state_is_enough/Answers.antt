use Rattle.xb_serial.proofs.Fusion.{fusion-one}
use Rattle.xb_serial.proofs.laws.one_state_is_enough.Goals as goal

pub returns : goal.returns
returns c = λ table l rows on. fusion-one table l rows on
