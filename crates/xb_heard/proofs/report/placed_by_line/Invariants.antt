use Rattle.std.proofs.Common.{map, take}
use Rattle.xb_heard.proofs.TakenRows.{AreTaken}
use Rattle.xb_heard.proofs.report.placed_by_line.Given as goal

abbrev pub invariant-loop-index : goal.invariant-loop-index
invariant-loop-index l = AreTaken l.index (take l.index l.rows) (map (λ runs. runs.items) l.lines) l.closed
