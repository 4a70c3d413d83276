use Rattle.xb_heard.proofs.Periods.{go_by_whole_periods}
use Rattle.xb_heard.proofs.laws.figures_go_by_whole_periods.Goals as goal

pub returns : goal.returns
returns c = go_by_whole_periods
