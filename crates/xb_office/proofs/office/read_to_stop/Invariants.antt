use Rattle.std.proofs.Common.{◌≡◌, length}
use Rattle.xb_rows.specs.RowTexts.{fault_of_text}
use Rattle.xb_office.proofs.office.read_to_stop.Given as goal

abbrev pub invariant-loop-scan : goal.invariant-loop-scan
invariant-loop-scan l = fault_of_text l.fn.text ≡ l.scan.stop

abbrev pub decreases-loop-scan : goal.decreases-loop-scan
decreases-loop-scan l = length l.scan.rows
