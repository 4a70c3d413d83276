use Rattle.xb_dial.proofs.TraceLaws.{traces_keep_runs}
use Rattle.xb_dial.proofs.laws.traces_keep_runs.Goals as goal

pub returns : goal.returns
returns c = traces_keep_runs
