use Rattle.xb_laws.proofs.Network.{dialled-in-turn}
use Rattle.xb_laws.proofs.laws.dialled_in_turn.Goals as goal

pub returns : goal.returns
returns c = dialled-in-turn c.dialled_is_heard.ensures c.offices_in_turn.ensures
