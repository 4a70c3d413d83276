-- What is returned where a part fails.
use Rattle.std.specs.Prelude.{◌≡◌, ◌≢◌, ◌⊎◌, ℕ, List, [], Option, Some, None}
use Rattle.std.specs.List.{filter}
use Rattle.xb_model.specs.declared.mark.Mark.{Mark}
use Rattle.xb_model.specs.declared.signal.Signal.{Signal}
use Rattle.xb_model.specs.declared.fault.RowFault.{RowFault}
use Rattle.xb_model.specs.declared.fault.RowFault.TheVariants as row_fault
use Rattle.xb_routes.specs.declared.fault.RouteFault.{RouteFault}
use Rattle.xb_routes.specs.declared.fault.RouteFault.TheVariants as route_fault
use Rattle.xb_deck.specs.declared.table.TableFault.TheVariants as table_fault
use Rattle.xb_live.specs.declared.fault.EntriesFault.{EntriesFault}
use Rattle.xb_live.specs.declared.fault.EntriesFault.TheVariants as entries_fault
use Rattle.xb_live.specs.Clocks.{IsLate, IsLateEvent}
use Rattle.xb_live.specs.EventObjects.{is_event}
use Rattle.xb_live.specs.declared.line_hearing.Hearing.{Hearing}
use Rattle.xb_live.specs.TimedEntries.{TimedEntry, told_with}
use Rattle.xb_live.specs.declared.entry_text.EntryForm.{EntryForm}
use Rattle.xb_live.specs.declared.fault.LiveFault.{LiveFault}
use Rattle.xb_live.specs.declared.fault.LiveFault.TheVariants as fault

-- running out of memory is one fault, in whatever part
abbrev pub IsOfRoutes : RouteFault → LiveFault → Type 0
IsOfRoutes f e = ((f ≡ route_fault.NoMemory) × (e ≡ fault.Deck table_fault.NoMemory))
    ⊎ ((f ≢ route_fault.NoMemory) × (e ≡ fault.Routes f))

-- and so is a failed read
abbrev pub IsOfRows : RowFault → LiveFault → Type 0
IsOfRows f e = ((f ≡ row_fault.NoMemory) × (e ≡ fault.Deck table_fault.NoMemory))
    ⊎ (((f ≡ row_fault.Read) × (e ≡ fault.Deck table_fault.Read))
    ⊎ ((f ≢ row_fault.NoMemory) × (f ≢ row_fault.Read) × (e ≡ fault.Rows f)))

-- what is returned of an entry, where it is not printed: memory ran out, or one of its times is past the last instant
abbrev pub IsOfEntry : EntryForm → TimedEntry → EntriesFault → Type 0
IsOfEntry form told entries_fault.NoMemory = Unit {0}
IsOfEntry form told (entries_fault.Late line number) = (told.line ≡ line) × (told.number ≡ number) × IsLate form told
IsOfEntry form told (entries_fault.LateEvent line) = ⊥
IsOfEntry form told entries_fault.Write = ⊥

-- what is returned of the signals of a row, where they are not printed: likewise, and one of them is an event whose
-- time is past the last instant
abbrev pub IsOfSignals : EntryForm → ℕ → ℕ → List Signal → EntriesFault → Type 0
IsOfSignals form line at signals entries_fault.NoMemory = Unit {0}
IsOfSignals form line at signals (entries_fault.Late l number) = ⊥
IsOfSignals form line at signals (entries_fault.LateEvent l) =
    (line ≡ l) × (filter is_event signals ≢ []) × IsLateEvent form at
IsOfSignals form line at signals entries_fault.Write = ⊥

-- what is returned of a row, by the entry that it completes, if it does
abbrev pub IsOfCompleted : EntryForm → ℕ → List Mark → Hearing → Option ℕ → EntriesFault → Type 0
IsOfCompleted form line marks heard None f = f ≡ entries_fault.NoMemory
IsOfCompleted form line marks heard (Some number) f = IsOfEntry form (told_with line number marks heard) f

abbrev pub IsOfRow : EntryForm → ℕ → List Signal → Option ℕ → List Mark → Hearing → EntriesFault → Type 0
IsOfRow form line signals number marks heard f =
    IsOfSignals form line heard.at signals f ⊎ IsOfCompleted form line marks heard number f
