use Rattle.xb_loop.proofs.KeptTapes.{hears_nothing_otherwise}
use Rattle.xb_loop.proofs.laws.nothing_is_heard_otherwise.Goals as goal

pub returns : goal.returns
returns c = hears_nothing_otherwise
