use Rattle.xb_parts.specs.RowStreams.{AreCounted}
use Rattle.xb_parts.proofs.counting.count_rows.Given as goal

abbrev pub invariant-loop : goal.invariant-loop
invariant-loop g l = AreCounted l.counter l.initial.rows l.rows l.loads
