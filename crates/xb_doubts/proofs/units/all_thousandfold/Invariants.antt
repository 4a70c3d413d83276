use Rattle.std.proofs.Common.{◌≡◌, drop}
use Rattle.std.specs.List.{list_all}
use Rattle.xb_doubts.specs.Units.{is_thousandfold}
use Rattle.xb_doubts.proofs.units.all_thousandfold.Given as goal

abbrev pub invariant-loop-row : goal.invariant-loop-row
invariant-loop-row l =
    list_all (is_thousandfold l.limits) (drop l.row-index l.rows) ≡ list_all (is_thousandfold l.limits) l.rows
