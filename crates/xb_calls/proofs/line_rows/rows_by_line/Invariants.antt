use Rattle.std.proofs.Common.{map, take}
use Rattle.xb_calls.specs.Calls.{AreCalls}
use Rattle.xb_calls.proofs.LinesOfCalls.{AreLineRows}
use Rattle.xb_calls.proofs.line_rows.rows_by_line.Given as goal

abbrev pub invariant-loop-call : goal.invariant-loop-call
invariant-loop-call l = record {
  rows : AreLineRows l.speed (take l.call-index l.calls) (map (λ rows. rows.items) l.lines);
  calls : AreCalls (take l.call-index l.calls);
}
