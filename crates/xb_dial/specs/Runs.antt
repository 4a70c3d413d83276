-- The runs of a contact that dials rows.
use Rattle.std.specs.Prelude.{ℕ, ◌+◌, ◌*◌, List, [], ◌∷◌, ◌++◌, map}
use Rattle.std.specs.List.{sum_by}
use Rattle.xb_model.specs.declared.row.Contact.{Contact}
use Rattle.xb_model.specs.declared.row.Contact.TheVariants.{Make, Brk, Close}
use Rattle.xb_model.specs.Rows.{LoopRow}
use Rattle.xb_contact.specs.declared.level.Level.{Level}
use Rattle.xb_contact.specs.declared.level.Level.TheVariants.{Open, Closed}
use Rattle.xb_contact.specs.declared.hold.Hold.{Hold}
use Rattle.xb_contact.specs.Holds.{hold_of, runs_of}
use Rattle.xb_dial.specs.declared.contact_runs.TheConstants.{IDLE_MS, US_OF_MS}

-- closed in a make, else open
abbrev pub level_in : Contact → Level
level_in Make = Closed
level_in Brk = Open
level_in Close = Open

-- what a row says, in ms
abbrev pub hold_of_row : LoopRow → Hold
hold_of_row row = hold_of (level_in row.contact) row.ms

-- a line that is on hook
abbrev pub on_hook : Hold
on_hook = hold_of Open IDLE_MS

-- the runs in ms: on hook, then the rows, and on hook again; rows of one contact that follow each other are one run,
-- and a row of 0 ms is none
abbrev pub runs_in : List LoopRow → List Hold
runs_in rows = runs_of (on_hook ∷ (map hold_of_row rows ++ on_hook ∷ []))

-- the same in us
abbrev pub in_us : Hold → Hold
in_us run = hold_of run.level (run.ticks * US_OF_MS)

-- how many us the recording has
abbrev pub us_in : List LoopRow → ℕ
us_in rows = 2 * IDLE_MS * US_OF_MS + sum_by (λ (row : LoopRow). row.ms * US_OF_MS) rows
