use Rattle.std.proofs.Common.{◌≡◌, ◌++◌, [], None, length}
use Rattle.xb_closes.specs.Left.{left}
use Rattle.xb_closes.proofs.fed.close_lines.Given as goal

abbrev pub invariant-loop-row : goal.invariant-loop-row
invariant-loop-row l = l.fed.items ++ left l.uses [] None ≡ l.initial.fed.items ++ left l.initial.uses [] None

abbrev pub decreases-loop-row : goal.decreases-loop-row
decreases-loop-row l = length (left l.uses [] None)
