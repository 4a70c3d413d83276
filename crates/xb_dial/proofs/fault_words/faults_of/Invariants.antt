use Rattle.std.proofs.Common.{◌≡◌, [], length}
use Rattle.std.specs.Prelude.{option_copied}
use Rattle.xb_text.specs.Pieces.{pieces, pieces_left}
use Rattle.xb_dial.specs.FaultWords.{faults_after}
use Rattle.xb_dial.proofs.fault_words.faults_of.Given as goal

abbrev pub invariant-loop-left : goal.invariant-loop-left
invariant-loop-left l =
    faults_after l.faults.items (pieces_left 44 (option_copied l.left)) ≡ faults_after [] (pieces 44 l.fn.text)

abbrev pub decreases-loop-left : goal.decreases-loop-left
decreases-loop-left l = length (pieces_left 44 (option_copied l.left))
