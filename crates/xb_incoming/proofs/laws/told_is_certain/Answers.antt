use Rattle.xb_incoming.proofs.Certain.{told_is_certain}
use Rattle.xb_incoming.proofs.laws.told_is_certain.Goals as goal

pub returns : goal.returns
returns c = λ limit register keys told has. told_is_certain limit register keys told has
