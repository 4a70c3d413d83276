-- What is printed with events, without them.
use Rattle.std.proofs.Common.{◌≡◌, ℕ, true, List, [], ◌∷◌, ◌++◌, codes, map, Option, Some, None, refl, sym, ap, ◌∙◌, subst}
use Rattle.std.specs.Prelude.{is_none}
use Rattle.std.specs.List.{AllByRecursion, filter, flat_map}
use Rattle.jiff_core.specs.declared.timestamp.Timestamp.{Timestamp}
use Rattle.serde_json.specs.Find.{get}
use Rattle.xb_model.specs.declared.order.Order.{Order}
use Rattle.xb_model.specs.declared.order.Order.TheVariants as orders
use Rattle.xb_model.specs.declared.signal.Signal.{Signal}
use Rattle.xb_model.specs.declared.signal.Signal.TheVariants.{Seize, Digit, TimeOut, Release, Close}
use Rattle.xb_model.specs.LawfulLimits.{IsLawful}
use Rattle.xb_model.specs.Numbers.{digit_of_count}
use Rattle.xb_model.specs.Rows.{LoopRow}
use Rattle.xb_pulse.specs.Machine.{signals_by}
use Rattle.xb_routes.specs.Table.{Table}
use Rattle.xb_serial.proofs.OneLine.{both_all}
use Rattle.xb_live.specs.declared.entry_text.EntryForm.TheVariants.{Events, Objects}
use Rattle.xb_clock.specs.Clocks.{Clock, time_at}
use Rattle.xb_live.specs.Clocks.{styled}
use Rattle.xb_live.specs.EventObjects.{bare_object, digit_object, is_event, line_at, object_by}
use Rattle.xb_live.specs.Events.{Event, event_by, events_by, made_by}
use Rattle.xb_live.specs.LeftOut.{EventsLeftOut, HasEvent}
use Rattle.xb_clock.specs.Objects.{with_time}
use Rattle.xb_live.specs.Objects.{object_by as entry_by, order_in}
use Rattle.xb_live.specs.Texts.{event_text, text_of}
use Rattle.xb_live.specs.TimedEntries.{TimedEntry, told_in, told_of_rows}
use Rattle.xb_live.specs.Told.{all_after, all_in, event_of, events_among}
use Rattle.xb_live.proofs.AllTold.{all-cons, all-none, entries-all, entries-alone, events-here}
use Rattle.std.proofs.lemmas.List.Concat.{flat_map-append}
use Rattle.xb_live.proofs.HeardRows.{heard_after}
use Rattle.xb_live.proofs.MadeSignals.{made-is}

bare-has : (time : Option (List ℕ)) (line at : ℕ) (name : List ℕ) → HasEvent (line_at time (Some (bare_object line at name)))
bare-has None line at name = (bare_object line at name, refl, refl)
bare-has (Some time) line at name = (with_time (codes "at") (Some time) (bare_object line at name), refl, refl)

digit-has : (time : Option (List ℕ)) (line at : ℕ) (dialled : List ℕ) (digit : Option ℕ) → HasEvent (line_at time (Some (digit_object line at dialled digit)))
digit-has None line at dialled digit = (digit_object line at dialled digit, refl, refl)
digit-has (Some time) line at dialled digit = (with_time (codes "at") (Some time) (digit_object line at dialled digit), refl, refl)

signal-has : (time : Option (List ℕ)) (line at : ℕ) (dialled : List ℕ) (signal : Signal) → is_event signal ≡ true → HasEvent (line_at time (object_by line at dialled signal))
signal-has time line at dialled Seize is = bare-has time line at (codes "SEIZED")
signal-has time line at dialled (Digit count bad) is = digit-has time line at dialled (digit_of_count count bad)
signal-has time line at dialled TimeOut is = bare-has time line at (codes "TIMEDOUT")
signal-has time line at dialled Release is = bare-has time line at (codes "RELEASED")
signal-has time line at dialled Close is = absurd (cc is)

kept-events : (signals : List Signal) → AllByRecursion (λ signal. is_event signal ≡ true) (filter is_event signals)
kept-events [] = tt
kept-events (Seize ∷ signals) = (refl, kept-events signals)
kept-events (Digit count bad ∷ signals) = (refl, kept-events signals)
kept-events (TimeOut ∷ signals) = (refl, kept-events signals)
kept-events (Release ∷ signals) = (refl, kept-events signals)
kept-events (Close ∷ signals) = kept-events signals

module _ (table : Table) (lawful : IsLawful table.limits) (since : Option Timestamp) (clock : Clock) where
  abbrev Has : Event → Type 0
  Has event = HasEvent (event_text (Events since) clock event)

  row-has : (rows : List LoopRow) (l : ℕ) (signals : List Signal) → AllByRecursion (λ signal. is_event signal ≡ true) signals → AllByRecursion Has (map (event_by table rows l) signals)
  row-has rows l [] all = tt
  row-has rows l (signal ∷ signals) all =
      let event : Event = event_by table rows l signal in
      (signal-has (time_at since clock event.at) event.line event.at event.dialled signal all.0, row-has rows l signals all.1)

  rows-have : (earlier rows : List LoopRow) → AllByRecursion Has (events_among (all_after table earlier rows))
  rows-have earlier [] = subst (λ all. AllByRecursion Has (events_among all)) (sym (all-none table earlier)) tt
  rows-have earlier (row ∷ rows) =
      let first : List LoopRow = earlier ++ row ∷ [] in
      subst (AllByRecursion Has)
      (sym (ap events_among (all-cons table earlier row rows)
      ∙ flat_map-append event_of (all_in table earlier row) (all_after table first rows)
      ∙ ap (λ front. front ++ events_among (all_after table first rows)) (events-here table (events_by table earlier row) (told_in table earlier row))))
      (both_all Has (events_by table earlier row) (events_among (all_after table first rows))
      (row-has first row.line (made_by table.limits earlier row)
      (subst (AllByRecursion (λ signal. is_event signal ≡ true)) (sym (made-is table.limits table.plan lawful earlier row))
      (kept-events (signals_by table.limits (heard_after table.limits table.plan row.line earlier).pulse row))))
      (rows-have first rows))

-- no object of an entry has an event
by-order : (from at : Option (List ℕ)) (told : TimedEntry) (order : Order) → is_none (get (codes "event") (with_time (codes "from") from (with_time (codes "at") at (entry_by told order)))) ≡ true
by-order None None told (orders.Key trunk sent) = refl
by-order None (Some at) told (orders.Key trunk sent) = refl
by-order (Some from) None told (orders.Key trunk sent) = refl
by-order (Some from) (Some at) told (orders.Key trunk sent) = refl
by-order None None told (orders.Refused reason heard) = refl
by-order None (Some at) told (orders.Refused reason heard) = refl
by-order (Some from) None told (orders.Refused reason heard) = refl
by-order (Some from) (Some at) told (orders.Refused reason heard) = refl

same-text : (since : Option Timestamp) (clock : Clock) (tolds : List TimedEntry)
    → flat_map (text_of (styled (Events since) clock)) tolds ≡ flat_map (text_of (styled (Objects since) clock)) tolds
same-text since clock [] = refl
same-text since clock (told ∷ tolds) = ap (λ text. text_of (styled (Objects since) clock) told ++ text) (same-text since clock tolds)

pub events_left_out : (table : Table) → IsLawful table.limits → (rows : List LoopRow) → EventsLeftOut table rows
events_left_out table lawful rows = record {
  events = λ since clock. rows-have table lawful since clock [] rows;
  entries = λ from at told. by-order from at told (order_in told.marks);
  same = λ since clock.
      ap (flat_map (text_of (styled (Events since) clock))) (entries-all table [] rows)
      ∙ same-text since clock (told_of_rows table rows)
      ∙ sym (entries-alone (styled (Objects since) clock) tt table rows);
}
