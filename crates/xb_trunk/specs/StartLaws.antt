-- What start dial promises.
use Rattle.std.specs.Prelude.{◌≡◌, ◌≤◌, ℕ, ◌+◌, List, [], ◌∷◌, ◌++◌, map}
use Rattle.xb_model.specs.declared.mark.Mark.{Mark}
use Rattle.xb_model.specs.Records.{Run}
use Rattle.xb_trunk.specs.declared.start_dial.Fate.{Fate}
use Rattle.xb_trunk.specs.declared.start_dial.Fate.TheVariants.{Idle, Waits, Keyed, GivenUp}
use Rattle.xb_trunk.specs.declared.start_dial.TheConstants.{AFTER_WINK, LONGEST_WAIT}
use Rattle.xb_trunk.specs.Leads.{EndsWink, HasWink, IsCompleted, completed, lasting, leads, time_of}
use Rattle.xb_trunk.specs.Starts.{Dial, Event, clock, lead, after, dial_after, fate_at, first_of, no_dial}

-- the keying that waits first after rows
abbrev pub first_after : List Event → List Mark
first_after events = first_of (dial_after events).waiting

-- what becomes of it with the end of a row of the clock, of so many ms, that comes next
abbrev pub fate_after : List Event → ℕ → Fate
fate_after events ms = fate_at (dial_after events) (time_of events + ms)

-- a keying has its wink: one that began at its completion or after it
pub record HasItsWink (events : List Event) (marks : List Mark) (now : ℕ) : Type 0 where
  pub since : ℕ
  pub is_completed : IsCompleted events marks since
  pub has : HasWink (leads events) since now

-- what is keyed was completed in an earlier row, and has its wink
abbrev pub NoKeyWithoutWink : Type 0
NoKeyWithoutWink = (events : List Event) (ms : ℕ) → fate_after events ms ≡ Keyed
    → HasItsWink events (first_after events) (time_of events + ms)

-- of the rows since a moment of the clock, none ended a wink long enough before now that began at that moment or later
abbrev pub NoWink : List Event → List Event → ℕ → Type 0
NoWink earlier later now = (first : List Run) (row : Run) (more : List Run) → leads later ≡ first ++ row ∷ more
    → EndsWink (leads earlier ++ first) row (time_of earlier)
    → lasting (leads earlier ++ first) + AFTER_WINK ≤ now → ⊥

-- a keying waited long enough, and no wink of it came
pub record LacksItsWink (events : List Event) (marks : List Mark) (now : ℕ) : Type 0 where
  pub earlier : List Event
  pub later : List Event
  pub are : events ≡ earlier ++ later
  pub is_completed : IsCompleted events marks (time_of earlier)
  pub waited : time_of earlier + LONGEST_WAIT ≤ now
  pub no_wink : NoWink earlier later now

abbrev pub GivenUpWithoutWink : Type 0
GivenUpWithoutWink = (events : List Event) (ms : ℕ) → fate_after events ms ≡ GivenUp
    → LacksItsWink events (first_after events) (time_of events + ms)

-- a keying, and whether it was keyed or given up
pub record Settlement : Type 0 where
  pub fate : Fate
  pub marks : List Mark

abbrev pub settlement_of : Fate → List (List Mark) → List Settlement
settlement_of Idle waiting = []
settlement_of Waits waiting = []
settlement_of fate [] = []
settlement_of fate (first ∷ rest) = record { fate = fate; marks = first } ∷ []

abbrev pub settled_in : Dial → Event → List Settlement
settled_in d (lead contact ms) = []
settled_in d (clock ms marks) = settlement_of (fate_at d (d.now_ms + ms)) d.waiting

abbrev pub settled_from : Dial → List Event → List Settlement
settled_from d [] = []
settled_from d (event ∷ events) = settled_in d event ++ settled_from (after d event) events

-- those that were keyed and given up, and those that wait, are just those that were completed, in order
abbrev pub EachIsSettledOnce : Type 0
EachIsSettledOnce = (events : List Event)
    → map (λ (s : Settlement). s.marks) (settled_from no_dial events) ++ (dial_after events).waiting ≡ completed events
