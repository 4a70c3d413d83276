use Rattle.std.proofs.Common.{◌≡◌, ◌+◌, drop}
use Rattle.std.specs.Prelude.{count_by}
use Rattle.xb_doubts.specs.Units.{is_break}
use Rattle.xb_doubts.proofs.units.count_breaks.Given as goal

abbrev pub invariant-loop-row : goal.invariant-loop-row
invariant-loop-row l = l.count + count_by is_break (drop l.row-index l.rows) ≡ count_by is_break l.rows
