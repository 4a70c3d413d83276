use Rattle.std.proofs.Common.{◌≡◌, ◌≤◌, ◌+◌, ℕ, List, Option}
use Rattle.xb_model.specs.Rows.{LoopRow}
use Rattle.xb_clock.specs.Clocks.{Clock}
use Rattle.xb_live.specs.Clocks.{IsClockOf, styled}
use Rattle.xb_live.specs.Writing.{HasWritten}
use Rattle.xb_live.proofs.Written.{with_closes_below}
use Rattle.xb_live.proofs.entry_writing.close_lines.Given as goal

abbrev pub invariant-loop-number : goal.invariant-loop-number
invariant-loop-number g l = record {
  few : l.office.keyed + l.office.refused ≤ l.initial.office.keyed + l.initial.office.refused + l.number;
  table : l.office.live.table ≡ l.initial.office.live.table;
  written : (clock : Clock) → IsClockOf l.form clock → (rows : List LoopRow) (start : Option (List ℕ)) → HasWritten (styled l.form clock) l.initial.office l.initial.hearings rows start (g.W.Write.contents l.initial.out)
      → HasWritten (styled l.form clock) l.office l.hearings (with_closes_below l.number rows) start (g.W.Write.contents l.out);
}
