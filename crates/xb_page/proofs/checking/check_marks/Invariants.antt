use Rattle.std.proofs.Common.{◌≡◌, length}
use Rattle.std.specs.Prelude.{option_copied}
use Rattle.xb_page.specs.Places.{space}
use Rattle.xb_page.specs.ReadPages.{if_there, marks_of}
use Rattle.xb_page.specs.declared.fault.PageFault.TheVariants as fault
use Rattle.xb_text.specs.Pieces.{pieces_left}
use Rattle.xb_page.proofs.checking.check_marks.Given as goal

abbrev pub invariant-loop-left : goal.invariant-loop-left
invariant-loop-left l =
    if_there (fault.Key l.n) (marks_of (pieces_left space (option_copied l.initial.left)))
    ≡ if_there (fault.Key l.n) (marks_of (pieces_left space (option_copied l.left)))

abbrev pub decreases-loop-left : goal.decreases-loop-left
decreases-loop-left l = length (pieces_left space (option_copied l.left))
