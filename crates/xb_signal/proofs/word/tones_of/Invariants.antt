use Rattle.std.proofs.Common.{◌≡◌, ◌≤◌, length}
use Rattle.std.specs.Prelude.{option_copied}
use Rattle.xb_text.specs.Pieces.{pieces_left}
use Rattle.xb_signal.specs.ReadTones.{given_after}
use Rattle.xb_signal.specs.Words.{tones_of}
use Rattle.xb_signal.proofs.word.tones_of.Given as goal

abbrev pub invariant-loop-left : goal.invariant-loop-left
invariant-loop-left l = record {
  given : tones_of l.fn.text ≡ given_after l.tones (pieces_left 43 (option_copied l.left));
  few : length l.tones ≤ 6;
}

abbrev pub decreases-loop-left : goal.decreases-loop-left
decreases-loop-left l = length (pieces_left 43 (option_copied l.left))
