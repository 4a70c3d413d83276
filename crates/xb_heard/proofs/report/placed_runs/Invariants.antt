use Rattle.std.proofs.Common.{take}
use Rattle.xb_heard.proofs.TakenRows.{IsTaken}
use Rattle.xb_heard.proofs.report.placed_runs.Given as goal

abbrev pub invariant-loop-index : goal.invariant-loop-index
invariant-loop-index l = IsTaken l.line l.index (take l.index l.rows) l.runs.items l.closed
