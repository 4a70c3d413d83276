-- What a sender gives for the orders of a line ("Notes on Distance Dialing"; an entry is the
-- profile's own).
use Rattle.std.specs.Prelude.{◌≡◌, List, map}
use Rattle.std.specs.List.{flat_map}
use Rattle.xb_model.specs.declared.line.LineNo.{LineNo}
use Rattle.xb_model.specs.declared.mark.Mark.{Mark}
use Rattle.xb_model.specs.declared.on.On.{On}
use Rattle.xb_model.specs.declared.order.Order.{Order}
use Rattle.xb_model.specs.Keyings.{marks_of}
use Rattle.xb_model.specs.Tapes.{entries_of}
use Rattle.xb_model.specs.Image.{Machine, image_on}
use Rattle.xb_model.specs.OnLines.{on_line}

-- the orders of a line give the marks of each, in order, on that line
abbrev pub GivesMarks : {S : Type 0} → Machine (On Order) (On Mark) S → Type 0
GivesMarks machine =
    (line : LineNo) (orders : List Order)
    → image_on machine (on_line line orders) ≡ on_line line (flat_map marks_of orders)

-- the entries of what the orders of a line give are the marks of each: one entry for each order
abbrev pub GivesOneEntryEach : {S : Type 0} → Machine (On Order) (On Mark) S → Type 0
GivesOneEntryEach machine =
    (line : LineNo) (orders : List Order)
    → entries_of (map (λ (sent : On Mark). sent.what) (image_on machine (on_line line orders)))
    ≡ map marks_of orders
