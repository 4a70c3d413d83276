use Rattle.std.proofs.Common.{[]}
use Rattle.xb_plot.proofs.LastTurns.{kept}
use Rattle.xb_plot.proofs.laws.the_last_turns_are_kept.Goals as goal

pub returns : goal.returns
returns c = kept []
