use Rattle.xb_feed.proofs.TallyLemmas.{counts_the_short_runs}
use Rattle.xb_feed.proofs.laws.the_short_runs_are_counted.Goals as goal

pub returns : goal.returns
returns c = counts_the_short_runs
