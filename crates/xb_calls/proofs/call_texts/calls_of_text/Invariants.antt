use Rattle.std.proofs.Common.{◌≡◌, ◌+◌, ◌≤◌, length, map}
use Rattle.std.specs.Prelude.{option_copied}
use Rattle.std.specs.Str.Lines.{strip_carriage_return}
use Rattle.xb_calls.specs.CallTexts.{calls_from, calls_of_text}
use Rattle.xb_calls.specs.Lists.{line_feed}
use Rattle.xb_calls.specs.TextLines.{after}
use Rattle.xb_text.specs.Pieces.{pieces_left}
use Rattle.xb_calls.proofs.call_texts.calls_of_text.Given as goal

abbrev pub invariant-loop-left : goal.invariant-loop-left
invariant-loop-left l = record {
  calls :
      calls_of_text l.fn.whole l.fn.text
      ≡ after l.calls.items (calls_from l.fn.whole (l.n + 1)
      (map strip_carriage_return (pieces_left line_feed (option_copied l.left))));
  few : l.n + length (pieces_left line_feed (option_copied l.left)) ≤ length l.fn.text + 1;
}

abbrev pub decreases-loop-left : goal.decreases-loop-left
decreases-loop-left l = length (pieces_left line_feed (option_copied l.left))
