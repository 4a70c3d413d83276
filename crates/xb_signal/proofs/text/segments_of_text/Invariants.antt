use Rattle.std.proofs.Common.{◌≡◌, ◌+◌, ◌≤◌, length, ◌∷◌, []}
use Rattle.std.specs.Prelude.{option_copied}
use Rattle.xb_text.specs.Pieces.{pieces_left}
use Rattle.xb_signal.specs.Segments.{silent}
use Rattle.xb_signal.specs.Texts.{after, segments_of_words, words_from, words_of}
use Rattle.xb_signal.specs.TextSteps.{total}
use Rattle.xb_signal.proofs.text.segments_of_text.Given as goal

abbrev pub invariant-loop-left : goal.invariant-loop-left
invariant-loop-left l = record {
  read :
      after (silent l.fn.cadence.lead_ms ∷ []) (segments_of_words l.fn.cadence l.fn.setting (words_of l.fn.text))
      ≡ after l.segments.items
      (segments_of_words l.fn.cadence l.fn.setting (words_from l.place (pieces_left 32 (option_copied l.left))));
  bytes : l.place.byte + total (pieces_left 32 (option_copied l.left)) ≡ length l.fn.text + 2;
  words : l.place.word ≤ l.place.byte;
}

abbrev pub decreases-loop-left : goal.decreases-loop-left
decreases-loop-left l = length (pieces_left 32 (option_copied l.left))
