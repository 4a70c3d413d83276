use Rattle.std.proofs.Common.{◌≡◌, map}
use Rattle.xb_model.specs.Lines.{lines_below}
use Rattle.xb_model.specs.Rows.{close_row}
use Rattle.xb_serial.proofs.closes.close_rows.Given as goal

abbrev pub invariant-loop-number : goal.invariant-loop-number
invariant-loop-number l = l.rows.items ≡ map close_row (lines_below l.number)
