use Rattle.xb_together.proofs.ReceivedNumbers.{numbers-received}
use Rattle.xb_together.proofs.received.dialled_is_received.Goals as goal

pub returns : goal.returns
returns c = numbers-received c.dialled_is_heard.ensures c.disturbed_keys_are_heard.ensures
