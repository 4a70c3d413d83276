-- A line whose keyings wait for the starts of another one, row by row.
use Rattle.std.specs.Prelude.{◌<◌, ◌≤◌, ◌+◌, ◌-◌, ◌^◌, ◌==◌, ℕ, Bool, true, false, List, [], ◌∷◌, ◌++◌, length, count_by, Option, Some, None, if◌then◌else◌}
use Rattle.xb_model.specs.declared.mark.Mark.{Mark}
use Rattle.xb_model.specs.Page.{is_refused}
use Rattle.xb_model.specs.Rows.{LoopRow}
use Rattle.xb_routes.specs.Table.{Table}
use Rattle.xb_trunk.specs.declared.start_dial.Fate.{Fate}
use Rattle.xb_trunk.specs.declared.start_dial.Fate.TheVariants.{Keyed, GivenUp}
use Rattle.xb_trunk.specs.StartLaws.{Settlement, settled_from}
use Rattle.xb_trunk.specs.Starts.{Dial, Event, clock, lead, after, after_clock, after_lead, dial_after, fate_at, first_of, no_dial}
use Rattle.xb_trunk.specs.Sounded.{Step, step_of}
use Rattle.xb_live.specs.Steps.{marks_by, steps_of}

-- an entry that is keyed waits for a start, and one that is refused does not
abbrev pub call_in : List Mark → List Mark
call_in marks = if is_refused marks then [] else marks

-- a row of the line is one of the clock, and one of the start line is one of the lead
abbrev pub events_in : Table → ℕ → ℕ → List LoopRow → LoopRow → List Event
events_in table line start earlier row =
    if row.line == line then clock row.ms (call_in (marks_by table earlier row)) ∷ []
    else if row.line == start then lead row.contact row.ms ∷ [] else []

-- those of rows that come after earlier ones
unfoldable pub events_after : Table → ℕ → ℕ → List LoopRow → List LoopRow → List Event
events_after table line start earlier [] = []
events_after table line start earlier (row ∷ rows) =
    events_in table line start earlier row ++ events_after table line start (earlier ++ row ∷ []) rows

abbrev pub events_of : Table → ℕ → ℕ → List LoopRow → List Event
events_of table line start rows = events_after table line start [] rows

-- with the end of a row of the clock the trunk takes the marks of the keying that is keyed then, if one is
abbrev pub keyed_in : Fate → List (List Mark) → List Mark
keyed_in Keyed waiting = first_of waiting
keyed_in fate waiting = []

abbrev pub step_in : Dial → Event → List Step
step_in d (lead contact ms) = []
step_in d (clock ms marks) = step_of ms (keyed_in (fate_at d (d.now_ms + ms)) d.waiting) ∷ []

abbrev pub steps_from : Dial → List Event → List Step
steps_from d [] = []
steps_from d (event ∷ events) = step_in d event ++ steps_from (after d event) events

-- how many are given up, and with those that wait at the end
abbrev pub is_up : Fate → Bool
is_up GivenUp = true
is_up fate = false

abbrev pub is_given_up : Settlement → Bool
is_given_up settlement = is_up settlement.fate

abbrev pub given_up_in : List Event → ℕ
given_up_in events = count_by is_given_up (settled_from no_dial events)

-- the line that sounds, and the one whose winks are its starts, where its keyings wait for any
pub record Asked : Type 0 where
  pub line : ℕ
  pub start : Option ℕ

abbrev pub asked_of : ℕ → Option ℕ → Asked
asked_of line start = record { line = line; start = start }

-- the steps of its trunk: where nothing waits for a start, just those of its rows
abbrev pub steps_by : Table → ℕ → Option ℕ → List LoopRow → List Step
steps_by table line None rows = steps_of table line rows
steps_by table line (Some start) rows = steps_from no_dial (events_of table line start rows)

abbrev pub steps_asked : Table → Asked → List LoopRow → List Step
steps_asked table asked rows = steps_by table asked.line asked.start rows

-- how many keyings are given up by the end of rows
abbrev pub given_up_by : Table → ℕ → Option ℕ → List LoopRow → ℕ
given_up_by table line None rows = 0
given_up_by table line (Some start) rows =
    given_up_in (events_of table line start rows) + length (dial_after (events_of table line start rows)).waiting

abbrev pub given_up_asked : Table → Asked → List LoopRow → ℕ
given_up_asked table asked rows = given_up_by table asked.line asked.start rows

-- the start line, where there is one, what is known of its winks, and how many keyings are given up so far
pub record Started : Type 0 where
  pub start : Option ℕ
  pub dial : Dial
  pub given_up : ℕ

abbrev pub started_of : Option ℕ → Started
started_of start = record { start = start; dial = no_dial; given_up = 0 }

-- with a row of the clock, and the entry that it completes
abbrev pub up_with : Fate → ℕ → ℕ
up_with GivenUp n = n + 1
up_with fate n = n

abbrev pub clock_by : Option ℕ → Started → ℕ → List Mark → Started
clock_by None started ms entry = started
clock_by (Some start) started ms entry = record {
  start = started.start;
  dial = after_clock started.dial ms (call_in entry);
  given_up = up_with (fate_at started.dial (started.dial.now_ms + ms)) started.given_up;
}

abbrev pub clock_taken : Started → ℕ → List Mark → Started
clock_taken started ms entry = clock_by started.start started ms entry

-- the marks that the trunk takes with it
abbrev pub marks_by_start : Option ℕ → Started → ℕ → List Mark → List Mark
marks_by_start None started ms entry = entry
marks_by_start (Some start) started ms entry =
    keyed_in (fate_at started.dial (started.dial.now_ms + ms)) started.dial.waiting

abbrev pub marks_given : Started → ℕ → List Mark → List Mark
marks_given started ms entry = marks_by_start started.start started ms entry

-- with a row of another line
abbrev pub other_by : Option ℕ → Started → LoopRow → Started
other_by None started row = started
other_by (Some start) started row = if row.line == start
    then record {
      start = started.start;
      dial = after_lead started.dial row.contact row.ms;
      given_up = started.given_up;
    }
    else started

abbrev pub other_taken : Started → LoopRow → Started
other_taken started row = other_by started.start started row

-- how many are given up when the rows end
abbrev pub up_at_end_by : Option ℕ → Started → ℕ
up_at_end_by None started = 0
up_at_end_by (Some start) started = started.given_up + length started.dial.waiting

abbrev pub up_at_end : Started → ℕ
up_at_end started = up_at_end_by started.start started

-- there is room to count one row more
abbrev pub HasRoom : Started → Type 0
HasRoom started = (started.given_up < 2 ^ 64 - 1) × (started.dial.lead_ms < 2 ^ 96) × (started.dial.now_ms < 2 ^ 96)

-- what one row adds at most
pub record GrowsByRow (old new : Started) : Type 0 where
  pub given_up : new.given_up ≤ old.given_up + 1
  pub lead : new.dial.lead_ms ≤ old.dial.lead_ms + 2 ^ 32
  pub now : new.dial.now_ms ≤ old.dial.now_ms + 2 ^ 32
