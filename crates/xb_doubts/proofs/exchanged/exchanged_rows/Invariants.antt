use Rattle.std.proofs.Common.{◌≡◌, ◌++◌, drop}
use Rattle.xb_doubts.specs.Exchanged.{exchanged_rows}
use Rattle.xb_doubts.proofs.exchanged.exchanged_rows.Given as goal

abbrev pub invariant-loop-row : goal.invariant-loop-row
invariant-loop-row l = l.others.items ++ exchanged_rows (drop l.row-index l.rows) ≡ exchanged_rows l.rows
