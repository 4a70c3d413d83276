use Rattle.std.proofs.Common.{◌≡◌, length}
use Rattle.std.specs.List.{list_any}
use Rattle.std.specs.Prelude.{option_copied}
use Rattle.xb_check.specs.Alone.{is_of_deck}
use Rattle.xb_findings.specs.TextLines.{lines_left, text_lines}
use Rattle.xb_check.proofs.table_alone.has_line_of_deck.Given as goal

abbrev pub invariant-loop-left : goal.invariant-loop-left
invariant-loop-left l =
    list_any is_of_deck (text_lines l.fn.text) ≡ list_any is_of_deck (lines_left (option_copied l.left))

abbrev pub decreases-loop-left : goal.decreases-loop-left
decreases-loop-left l = length (lines_left (option_copied l.left))
