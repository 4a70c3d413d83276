use Rattle.std.proofs.Common.{◌≡◌, ◌+◌, ◌≤◌, length}
use Rattle.std.specs.Prelude.{option_copied}
use Rattle.xb_text.specs.Pieces.{pieces_left}
use Rattle.xb_tone.specs.Texts.{entries_from, entries_of_text}
use Rattle.xb_tone.proofs.text.entries_of_text.Given as goal

abbrev pub invariant-loop-left : goal.invariant-loop-left
invariant-loop-left l = record {
  entries :
      entries_of_text l.fn.text ≡ entries_from l.number l.entries.items (pieces_left 10 (option_copied l.left));
  lines : l.number + length (pieces_left 10 (option_copied l.left)) ≤ length l.fn.text + 2;
}

abbrev pub decreases-loop-left : goal.decreases-loop-left
decreases-loop-left l = length (pieces_left 10 (option_copied l.left))
