use Rattle.std.proofs.Common.{◌≡◌, length}
use Rattle.std.specs.Prelude.{option_copied}
use Rattle.xb_text.specs.Pieces.{pieces_left}
use Rattle.xb_feed.specs.OwnWords.{no_own, own_after}
use Rattle.xb_feed.proofs.own.own_of.Given as goal

abbrev pub invariant-loop-left : goal.invariant-loop-left
invariant-loop-left l =
    own_after l.own (pieces_left 44 (option_copied l.left)) ≡ own_after no_own (pieces_left 44 (option_copied l.fn.words))

abbrev pub decreases-loop-left : goal.decreases-loop-left
decreases-loop-left l = length (pieces_left 44 (option_copied l.left))
