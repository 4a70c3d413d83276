use Rattle.std.proofs.Common.{◌≡◌, ◌+◌, ◌≤◌, length, map}
use Rattle.std.specs.List.{enumerate_from}
use Rattle.std.specs.Prelude.{option_copied}
use Rattle.std.specs.Str.Lines.{strip_carriage_return}
use Rattle.xb_calls.specs.Lists.{line_feed}
use Rattle.xb_text.specs.Pieces.{pieces_left}
use Rattle.xb_route.specs.NumberTexts.{lines_read, numbers_of, numbers_of_text}
use Rattle.xb_route.specs.TextSteps.{after, digits_of_numbers}
use Rattle.xb_route.proofs.number_texts.numbers_of_text.Given as goal

abbrev pub invariant-loop-left : goal.invariant-loop-left
invariant-loop-left l = record {
  numbers :
      numbers_of_text l.fn.text
      ≡ after (digits_of_numbers l.numbers.items) (numbers_of (lines_read (enumerate_from (l.place + 1)
      (map strip_carriage_return (pieces_left line_feed (option_copied l.left))))));
  few : l.place + length (pieces_left line_feed (option_copied l.left)) ≤ length l.fn.text + 1;
}

abbrev pub decreases-loop-left : goal.decreases-loop-left
decreases-loop-left l = length (pieces_left line_feed (option_copied l.left))
