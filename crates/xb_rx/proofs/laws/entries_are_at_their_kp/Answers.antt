use Rattle.xb_rx.proofs.PlacedKeyings.{entries_are_at_their_kp}
use Rattle.xb_rx.proofs.laws.entries_are_at_their_kp.Goals as goal

pub returns : goal.returns
returns c = entries_are_at_their_kp
