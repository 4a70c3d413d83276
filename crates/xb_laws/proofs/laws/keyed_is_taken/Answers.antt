use Rattle.xb_laws.proofs.Registered.{registered}
use Rattle.xb_laws.proofs.laws.keyed_is_taken.Goals as goal

pub returns : goal.returns
returns c = registered c.disturbed_keys_are_heard.ensures
