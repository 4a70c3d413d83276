-- The rows of holds in ms.
use Rattle.std.specs.Prelude.{ℕ, ◌/◌, ◌%◌, List, [], ◌∷◌, ◌++◌, map, replicate}
use Rattle.std.specs.List.{flat_map}
use Rattle.xb_model.specs.declared.row.TheConstants.{GREATEST_MS}
use Rattle.xb_model.specs.declared.row.Contact.{Contact}
use Rattle.xb_model.specs.declared.row.Contact.TheVariants.{Make, Brk}
use Rattle.xb_model.specs.Rows.{LoopRow, row_of}
use Rattle.xb_model.specs.Records.{Run, run_of}
use Rattle.xb_contact.specs.declared.level.Level.{Level}
use Rattle.xb_contact.specs.declared.level.Level.TheVariants.{Open, Closed}
use Rattle.xb_contact.specs.declared.hold.Hold.{Hold}
use Rattle.xb_contact.specs.Holds.{hold_of}

-- a closed loop makes, an open one breaks
abbrev pub contact_of : Level → Contact
contact_of Open = Brk
contact_of Closed = Make

-- the row of a line for a hold
abbrev pub row_of_hold : ℕ → Hold → LoopRow
row_of_hold line hold = row_of line (contact_of hold.level) hold.ticks

-- the run of the chain for a hold
abbrev pub run_of_hold : Hold → Run
run_of_hold hold = run_of (contact_of hold.level) hold.ticks

abbrev pub rows_of_holds : ℕ → List Hold → List LoopRow
rows_of_holds line holds = map (row_of_hold line) holds

abbrev pub runs_of_holds : List Hold → List Run
runs_of_holds holds = map run_of_hold holds

-- a row has a day at most: a hold as whole days, and the rest
abbrev pub day_parts : Hold → List Hold
day_parts hold =
    replicate (hold.ticks / GREATEST_MS) (hold_of hold.level GREATEST_MS)
    ++ hold_of hold.level (hold.ticks % GREATEST_MS) ∷ []

-- the rows that are written of holds
abbrev pub written_rows : ℕ → List Hold → List LoopRow
written_rows line holds = rows_of_holds line (flat_map day_parts holds)
