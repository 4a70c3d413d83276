use Rattle.std.proofs.Common.{◌≡◌}
use Rattle.xb_doubts.specs.Lines.{told_below, told_by}
use Rattle.xb_doubts.proofs.lines.Lines.of_rows.Given as goal

abbrev pub invariant-loop-number : goal.invariant-loop-number
invariant-loop-number l = told_by l.lines ≡ told_below l.limits l.rows l.number
