use Rattle.xb_turns.proofs.ReportedFigures.{figures_are_reported}
use Rattle.xb_turns.proofs.laws.figures_are_reported.Goals as goal

pub returns : goal.returns
returns c = figures_are_reported
