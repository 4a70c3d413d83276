use Rattle.std.proofs.Common.{◌≡◌, ◌++◌, length}
use Rattle.xb_rows.specs.RowTexts.{fault_of_text, rows_of_text}
use Rattle.xb_rows.proofs.rows.rows_of_text.Given as goal

abbrev pub invariant-loop-rows : goal.invariant-loop-rows
invariant-loop-rows l = record {
  rows : rows_of_text l.fn.text ≡ l.rows.items ++ l.scan.rows;
  stop : fault_of_text l.fn.text ≡ l.scan.stop;
}

abbrev pub decreases-loop-rows : goal.decreases-loop-rows
decreases-loop-rows l = length l.scan.rows
