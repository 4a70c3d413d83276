use Rattle.xb_loop.proofs.Counted.{edges_are_seen}
use Rattle.xb_loop.proofs.laws.edges_are_seen.Goals as goal

pub returns : goal.returns
returns c = edges_are_seen
