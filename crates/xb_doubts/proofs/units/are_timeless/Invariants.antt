use Rattle.std.proofs.Common.{◌≡◌, drop}
use Rattle.std.specs.List.{list_all}
use Rattle.xb_doubts.specs.Units.{is_timeless}
use Rattle.xb_doubts.proofs.units.are_timeless.Given as goal

abbrev pub invariant-loop-row : goal.invariant-loop-row
invariant-loop-row l = list_all is_timeless (drop l.row-index l.rows) ≡ list_all is_timeless l.rows
