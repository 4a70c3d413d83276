use Rattle.std.proofs.Common.{◌≡◌, ◌++◌, drop}
use Rattle.xb_doubts.specs.Parts.{rows_in_parts}
use Rattle.xb_doubts.proofs.units.rows_in_parts.Given as goal

abbrev pub invariant-loop-row : goal.invariant-loop-row
invariant-loop-row l =
    l.others.items ++ rows_in_parts l.parts (drop l.row-index l.rows) ≡ rows_in_parts l.parts l.rows
