use Rattle.xb_laws.proofs.Network.{offices-in-turn}
use Rattle.xb_laws.proofs.laws.offices_in_turn.Goals as goal

pub returns : goal.returns
returns c = offices-in-turn c.disturbed_keys_are_heard.ensures
