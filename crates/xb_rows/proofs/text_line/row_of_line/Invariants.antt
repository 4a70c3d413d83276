use Rattle.std.proofs.Common.{drop}
use Rattle.xb_rows.proofs.TextLines.{IsReadTo}
use Rattle.xb_rows.proofs.text_line.row_of_line.Given as goal

abbrev pub invariant-loop-byte : goal.invariant-loop-byte
invariant-loop-byte l = IsReadTo l.text l.state l.said l.field.items (drop l.byte-index l.text)
