use Rattle.xb_rx.proofs.Unlike.{same_keys_do_not_differ}
use Rattle.xb_rx.proofs.laws.same_keys_do_not_differ.Goals as goal

pub returns : goal.returns
returns c = same_keys_do_not_differ
