use Rattle.std.proofs.Common.{◌≡◌, length}
use Rattle.std.specs.Prelude.{option_copied}
use Rattle.xb_parts.specs.Lists.{line_feed, ranges_of_lines, ranges_of_list, with_earlier}
use Rattle.xb_text.specs.Pieces.{pieces_left}
use Rattle.xb_parts.proofs.list.ranges_of_list.Given as goal

abbrev pub invariant-loop-left : goal.invariant-loop-left
invariant-loop-left l =
    ranges_of_list l.fn.text
    ≡ with_earlier l.ranges.items (ranges_of_lines (pieces_left line_feed (option_copied l.left)))

abbrev pub decreases-loop-left : goal.decreases-loop-left
decreases-loop-left l = length (pieces_left line_feed (option_copied l.left))
