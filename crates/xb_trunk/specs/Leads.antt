-- The rows of the far office's lead, and those of the clock.
use Rattle.std.specs.Prelude.{◌≡◌, ◌≤◌, ℕ, ◌+◌, ◌==◌, false, List, [], ◌∷◌, ◌++◌, reverse, sum_by, take_while, if◌then◌else◌}
use Rattle.std.specs.List.{flat_map}
use Rattle.xb_model.specs.declared.mark.Mark.{Mark}
use Rattle.xb_model.specs.Records.{Run, is_make, run_of}
use Rattle.xb_trunk.specs.declared.start_dial.TheConstants.{LEAST_WINK, MOST_WINK, AFTER_WINK}
use Rattle.xb_trunk.specs.Starts.{Event, lead, clock, keyings_of}

-- the rows of the lead, without those of no time
abbrev pub leads_in : Event → List Run
leads_in (lead contact ms) = if ms == 0 then [] else run_of contact ms ∷ []
leads_in (clock ms marks) = []

abbrev pub leads : List Event → List Run
leads events = flat_map leads_in events

-- how long rows last, and how long the makes last that they end with
abbrev pub lasting : List Run → ℕ
lasting rows = sum_by (λ (row : Run). row.ms) rows

abbrev pub last_make : List Run → ℕ
last_make rows = lasting (take_while is_make (reverse rows))

-- how long the rows of the clock last
abbrev pub clock_in : Event → ℕ
clock_in (lead contact ms) = 0
clock_in (clock ms marks) = ms

abbrev pub time_of : List Event → ℕ
time_of events = sum_by clock_in events

-- the keyings that are completed, in order
abbrev pub keyings_in : Event → List (List Mark)
keyings_in (lead contact ms) = []
keyings_in (clock ms marks) = keyings_of marks

abbrev pub completed : List Event → List (List Mark)
completed events = flat_map keyings_in events

-- after earlier rows this one ends a wink that began at a moment or after it
pub record EndsWink (earlier : List Run) (row : Run) (since : ℕ) : Type 0 where
  pub ends : is_make row ≡ false
  pub least : LEAST_WINK ≤ last_make earlier
  pub most : last_make earlier ≤ MOST_WINK
  pub began : since + last_make earlier ≤ lasting earlier

-- among rows there is a wink that began at a moment or after it, and that ended long enough before now
pub record HasWink (rows : List Run) (since now : ℕ) : Type 0 where
  pub earlier : List Run
  pub row : Run
  pub later : List Run
  pub are : rows ≡ earlier ++ row ∷ later
  pub wink : EndsWink earlier row since
  pub ended : lasting earlier + AFTER_WINK ≤ now

-- a keying was completed by some moment of the clock
pub record IsCompleted (events : List Event) (marks : List Mark) (by : ℕ) : Type 0 where
  pub earlier : List Event
  pub ms : ℕ
  pub later : List Event
  pub are : events ≡ earlier ++ clock ms marks ∷ later
  pub at : time_of earlier + ms ≤ by
