use Rattle.xb_laws.proofs.Registered.{numbers-registered}
use Rattle.xb_laws.proofs.laws.numbers_are_registered.Goals as goal

pub returns : goal.returns
returns c = numbers-registered c.disturbed_keys_are_heard.ensures
