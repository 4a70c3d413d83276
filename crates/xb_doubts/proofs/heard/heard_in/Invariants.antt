use Rattle.std.proofs.Common.{◌≡◌}
use Rattle.xb_doubts.specs.Heard.{heard_below}
use Rattle.xb_doubts.proofs.heard.heard_in.Given as goal

abbrev pub invariant-loop-number : goal.invariant-loop-number
invariant-loop-number l = l.heard ≡ heard_below l.limits l.rows l.number
