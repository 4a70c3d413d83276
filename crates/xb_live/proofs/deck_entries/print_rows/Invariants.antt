use Rattle.std.proofs.Common.{◌≡◌, ◌≤◌, ◌+◌}
use Rattle.xb_clock.specs.Clocks.{Clock}
use Rattle.xb_live.specs.Clocks.{IsClockOf, styled}
use Rattle.xb_live.proofs.Runs.{IsSoFar}
use Rattle.xb_live.proofs.deck_entries.print_rows.Given as goal

abbrev pub invariant-loop : goal.invariant-loop
invariant-loop g l = record {
  few : l.office.keyed + l.office.refused ≤ l.counter;
  table : l.office.live.table ≡ l.initial.office.live.table;
  so_far : (clock : Clock) → IsClockOf l.form clock → IsSoFar l.counter (styled l.form clock) l.office l.hearings l.initial.rows l.rows (g.W.Write.contents l.initial.out) (g.W.Write.contents l.out);
}
