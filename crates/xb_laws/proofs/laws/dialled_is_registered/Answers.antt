use Rattle.xb_laws.proofs.Dialled.{dialled-registered}
use Rattle.xb_laws.proofs.laws.dialled_is_registered.Goals as goal

pub returns : goal.returns
returns c = dialled-registered c.dialled_is_heard.ensures c.numbers_are_registered.ensures
