use Rattle.std.proofs.Common.{◌≡◌, ◌++◌, drop}
use Rattle.xb_doubts.specs.Lines.{rows_of_others, told_by}
use Rattle.xb_doubts.proofs.lines.Lines.rows_of_others.Given as goal

abbrev pub invariant-loop-row : goal.invariant-loop-row
invariant-loop-row l =
    l.kept.items ++ rows_of_others (told_by l.self) (drop l.row-index l.rows) ≡ rows_of_others (told_by l.self) l.rows
