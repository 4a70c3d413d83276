-- What is printed with events, without them.
use Rattle.std.specs.Prelude.{◌≡◌, ℕ, List, codes, true, Option, is_none, is_some}
use Rattle.std.specs.List.{AllByRecursion, flat_map}
use Rattle.jiff_core.specs.declared.timestamp.Timestamp.{Timestamp}
use Rattle.serde_json.specs.Data.{Data}
use Rattle.serde_json.specs.Find.{get}
use Rattle.xb_model.specs.Rows.{LoopRow}
use Rattle.xb_routes.specs.Table.{Table}
use Rattle.xb_live.specs.declared.entry_text.EntryForm.TheVariants as form
use Rattle.xb_clock.specs.Clocks.{Clock}
use Rattle.xb_live.specs.Clocks.{styled}
use Rattle.xb_live.specs.Events.{Event}
use Rattle.xb_live.specs.Objects.{line_of, timed_object}
use Rattle.xb_live.specs.Texts.{entries_text, event_text, text_of}
use Rattle.xb_live.specs.TimedEntries.{TimedEntry}
use Rattle.xb_live.specs.Told.{all_of_rows, entries_among, events_among}

-- a text is the line of an object that has an event
abbrev pub HasEvent : List ℕ → Type 0
HasEvent text = (value : Data) × (text ≡ line_of value) × (is_some (get (codes "event") value) ≡ true)

-- each event is a line whose object has an event, and no entry is; without the events the text is that of the entries'
-- objects alone, byte for byte
pub record EventsLeftOut (table : Table) (rows : List LoopRow) : Type 0 where
  pub events : (since : Option Timestamp) (clock : Clock)
      → AllByRecursion (λ (event : Event). HasEvent (event_text (form.Events since) clock event))
      (events_among (all_of_rows table rows))
  pub entries : (from at : Option (List ℕ)) (told : TimedEntry)
      → is_none (get (codes "event") (timed_object from at told)) ≡ true
  pub same : (since : Option Timestamp) (clock : Clock)
      → flat_map (text_of (styled (form.Events since) clock)) (entries_among (all_of_rows table rows))
      ≡ entries_text (styled (form.Objects since) clock) table rows
