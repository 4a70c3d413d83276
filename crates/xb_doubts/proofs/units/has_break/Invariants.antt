use Rattle.std.proofs.Common.{◌≡◌, drop}
use Rattle.std.specs.List.{list_any}
use Rattle.xb_doubts.specs.Units.{is_break}
use Rattle.xb_doubts.proofs.units.has_break.Given as goal

abbrev pub invariant-loop-row : goal.invariant-loop-row
invariant-loop-row l = list_any is_break (drop l.row-index l.rows) ≡ list_any is_break l.rows
