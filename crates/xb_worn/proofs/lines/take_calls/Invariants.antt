use Rattle.std.proofs.Common.{◌≡◌, ◌+◌, drop, map}
use Rattle.std.specs.List.{AllByRecursion}
use Rattle.xb_worn.specs.Sending.{sent, sent_calls}
use Rattle.xb_worn.specs.WornRows.{IsOnLine, misfit_from, with_calls}
use Rattle.xb_worn.proofs.lines.take_calls.Given as goal

-- the calls that are left complete the rows, and are the only ones that may not fit
abbrev pub invariant-loop-call : goal.invariant-loop-call
invariant-loop-call l = record {
  counts : l.number ≡ l.call-index + 1;
  rows :
      with_calls l.wear.speed.hang_up_ms (sent_calls l.wear l.faults l.state l.number (drop l.call-index l.calls))
      (map (λ rows. rows.items) l.lines)
      ≡ with_calls l.wear.speed.hang_up_ms (sent l.wear l.faults l.calls) (map (λ rows. rows.items) l.fn.lines);
  lines :
      AllByRecursion IsOnLine (sent_calls l.wear l.faults l.state l.number (drop l.call-index l.calls))
      → AllByRecursion IsOnLine (sent l.wear l.faults l.calls);
  fits :
      misfit_from l.number (sent_calls l.wear l.faults l.state l.number (drop l.call-index l.calls))
      ≡ misfit_from 1 (sent l.wear l.faults l.calls);
}
