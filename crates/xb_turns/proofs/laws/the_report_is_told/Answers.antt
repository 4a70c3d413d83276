use Rattle.xb_turns.proofs.ReportedRuns.{tells_the_report}
use Rattle.xb_turns.proofs.laws.the_report_is_told.Goals as goal

pub returns : goal.returns
returns c = tells_the_report
