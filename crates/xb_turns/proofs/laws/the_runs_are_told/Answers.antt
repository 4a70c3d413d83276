use Rattle.xb_turns.proofs.DialRuns.{tells_the_runs}
use Rattle.xb_turns.proofs.laws.the_runs_are_told.Goals as goal

pub returns : goal.returns
returns c = tells_the_runs
