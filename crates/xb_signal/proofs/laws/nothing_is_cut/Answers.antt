use Rattle.xb_signal.proofs.Uncut.{nothing_is_cut}
use Rattle.xb_signal.proofs.laws.nothing_is_cut.Goals as goal

pub returns : goal.returns
returns c = nothing_is_cut
