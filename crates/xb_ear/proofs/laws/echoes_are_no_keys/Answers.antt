use Rattle.xb_ear.proofs.Echoes.{echoes_are_no_keys}
use Rattle.xb_ear.proofs.laws.echoes_are_no_keys.Goals as goal

pub returns : goal.returns
returns c = echoes_are_no_keys
