use Rattle.std.proofs.Common.{◌≡◌, ◌≤◌, ◌+◌, ◌*◌, ◌++◌, [], ◌∷◌, drop, map}
use Rattle.std.specs.List.{sum_by}
use Rattle.xb_model.specs.Rows.{LoopRow}
use Rattle.xb_contact.specs.Holds.{join, runs_of}
use Rattle.xb_dial.specs.Runs.{hold_of_row, on_hook, runs_in, us_in}
use Rattle.xb_dial.proofs.contact_runs.runs_in.Given as goal

abbrev pub invariant-loop-row : goal.invariant-loop-row
invariant-loop-row l = record {
  runs :
      l.runs.items ++ join l.last (runs_of (map hold_of_row (drop l.row-index l.rows) ++ on_hook ∷ []))
      ≡ runs_in l.rows;
  within :
      l.last.ticks * 1000 + (sum_by (λ (row : LoopRow). row.ms * 1000) (drop l.row-index l.rows) + 1000000)
      ≤ us_in l.rows;
}
