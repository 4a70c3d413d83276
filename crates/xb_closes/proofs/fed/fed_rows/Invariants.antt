use Rattle.std.proofs.Common.{◌≡◌, ◌++◌, None, drop}
use Rattle.xb_closes.specs.Fed.{fed}
use Rattle.xb_closes.specs.Left.{left}
use Rattle.xb_closes.proofs.fed.fed_rows.Given as goal

abbrev pub invariant-loop-row : goal.invariant-loop-row
invariant-loop-row l = l.fed.items ++ left l.uses (drop l.row-index l.rows) None ≡ fed l.rows None
