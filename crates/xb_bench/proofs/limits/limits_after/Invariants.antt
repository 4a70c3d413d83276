use Rattle.std.proofs.Common.{◌≡◌, length}
use Rattle.std.specs.Prelude.{option_copied}
use Rattle.xb_text.specs.Pieces.{pieces, pieces_left}
use Rattle.xb_bench.specs.LimitWords.{limits_after, none_said}
use Rattle.xb_bench.proofs.limits.limits_after.Given as goal

abbrev pub invariant-loop-left : goal.invariant-loop-left
invariant-loop-left l =
    limits_after l.said (pieces_left 44 (option_copied l.left)) ≡ limits_after none_said (pieces 44 l.fn.text)

abbrev pub decreases-loop-left : goal.decreases-loop-left
decreases-loop-left l = length (pieces_left 44 (option_copied l.left))
