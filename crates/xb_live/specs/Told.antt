-- All that is told of rows: events and entries, each in its row.
use Rattle.std.specs.Prelude.{◌≡◌, ◌⊎◌, ℕ, List, [], ◌∷◌, ◌++◌, map}
use Rattle.std.specs.List.{flat_map}
use Rattle.std.proofs.Common.{inl, inr}
use Rattle.xb_model.specs.Lines.{of_line}
use Rattle.xb_model.specs.Rows.{LoopRow}
use Rattle.xb_routes.specs.Table.{Table}
use Rattle.xb_live.specs.Events.{Event, event_line, events_by, signal_in, signals_on}
use Rattle.xb_live.specs.TimedEntries.{TimedEntry, told_in, told_of_rows}

-- an event, or an entry
abbrev pub Told : Type 0
Told = Event ⊎ TimedEntry

-- what is told in a row: its events, and then the entries that it completes
abbrev pub all_in : Table → List LoopRow → LoopRow → List Told
all_in table earlier row = map inl (events_by table earlier row) ++ map inr (told_in table earlier row)

-- what is told of rows that come after earlier ones
unfoldable pub all_after : Table → List LoopRow → List LoopRow → List Told
all_after table earlier [] = []
all_after table earlier (row ∷ rows) = all_in table earlier row ++ all_after table (earlier ++ row ∷ []) rows

-- what is told of rows
abbrev pub all_of_rows : Table → List LoopRow → List Told
all_of_rows table rows = all_after table [] rows

-- the events among it, and the entries
abbrev pub event_of : Told → List Event
event_of (inl event) = event ∷ []
event_of (inr told) = []

abbrev pub entry_of : Told → List TimedEntry
entry_of (inl event) = []
entry_of (inr told) = told ∷ []

abbrev pub events_among : List Told → List Event
events_among all = flat_map event_of all

abbrev pub entries_among : List Told → List TimedEntry
entries_among all = flat_map entry_of all

-- the events of each line are the signals of its attempts, in order, and the entries are those that rows complete
pub record TellsAll (table : Table) (rows : List LoopRow) : Type 0 where
  pub signals : (l : ℕ) → map signal_in (of_line event_line l (events_among (all_of_rows table rows)))
      ≡ signals_on table.limits l rows
  pub entries : entries_among (all_of_rows table rows) ≡ told_of_rows table rows
