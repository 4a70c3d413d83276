use Rattle.std.proofs.Common.{◌≡◌, length}
use Rattle.xb_calls.specs.Lists.{after_blanks}
use Rattle.xb_calls.proofs.text_line.after_blanks.Given as goal

abbrev pub invariant-loop-left : goal.invariant-loop-left
invariant-loop-left l = after_blanks l.left ≡ after_blanks l.fn.line

abbrev pub decreases-loop-left : goal.decreases-loop-left
decreases-loop-left l = length l.left
