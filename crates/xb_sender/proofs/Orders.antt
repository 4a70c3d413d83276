-- What the sender gives for the orders of a line.
use Rattle.std.proofs.Common.{◌≡◌, List, [], ◌∷◌, map, refl, ap, ◌∙◌}
use Rattle.std.specs.List.{flat_map}
use Rattle.xb_model.specs.declared.line.LineNo.{LineNo}
use Rattle.xb_model.specs.declared.mark.Mark.{Mark}
use Rattle.xb_model.specs.declared.on.On.{On}
use Rattle.xb_model.specs.Keyings.{marks_of}
use Rattle.xb_model.specs.Tapes.{entries_of}
use Rattle.xb_model.proofs.Entries.{entries_of-flat_map}
use Rattle.xb_model.specs.OnLines.{on_line}
use Rattle.xb_model.proofs.Stateless.{image-stateless}
use Rattle.xb_sender.specs.Laws.{GivesMarks, GivesOneEntryEach}
use Rattle.xb_sender.specs.Machine.{machine}

-- the orders of a line give their marks
pub gives_marks : GivesMarks machine
gives_marks line orders = image-stateless marks_of line orders

-- marks that are put on a line
map-on_line : (line : LineNo) (marks : List Mark)
    → map (λ (sent : On Mark). sent.what) (on_line line marks) ≡ marks
map-on_line line [] = refl
map-on_line line (mark ∷ marks) = ap (λ ms. mark ∷ ms) (map-on_line line marks)

-- one entry for each order
pub gives_one_entry_each : GivesOneEntryEach machine
gives_one_entry_each line orders =
    ap (λ sent. entries_of (map (λ (item : On Mark). item.what) sent)) (gives_marks line orders)
    ∙ ap entries_of (map-on_line line (flat_map marks_of orders))
    ∙ entries_of-flat_map orders
