-- A trace that was worked out by another program.
use Rattle.std.specs.Prelude.{◌≡◌, List, [], ◌∷◌}
use Rattle.xb_model.specs.declared.row.Contact.TheVariants.{Make, Brk}
use Rattle.xb_model.specs.Rows.{LoopRow, row_of}
use Rattle.xb_contact.specs.declared.level.Level.TheVariants.{Open, Closed}
use Rattle.xb_dial.specs.declared.bouncing.Bouncing.{Bouncing}
use Rattle.xb_dial.specs.Traces.{change_at, trace_changes, trace_end}

-- a make of 2 ms, breaks of 0, 3 and 1 ms, and a make of 1 ms, which is too short to bounce for 1,000 us
abbrev worked_rows : List LoopRow
worked_rows =
    row_of 5 Make 2 ∷ row_of 5 Brk 0 ∷ row_of 5 Brk 3 ∷ row_of 5 Brk 1 ∷ row_of 5 Make 1 ∷ []

abbrev worked_bouncing : Bouncing
worked_bouncing = record { us = 1000; seed = 11 }

abbrev pub WorkedTrace : Type 0
WorkedTrace =
    (trace_changes worked_bouncing worked_rows
    ≡ change_at 0 Open ∷ change_at 1000000 Closed ∷ change_at 1000115 Open
    ∷ change_at 1000129 Closed ∷ change_at 1002000 Open ∷ change_at 1006000 Closed
    ∷ change_at 1007000 Open ∷ change_at 1007009 Closed ∷ change_at 1007040 Open
    ∷ change_at 1007093 Closed ∷ change_at 1007133 Open ∷ [])
    × (trace_end worked_rows ≡ 2007000)
