-- What is printed of a row is what is told of it.
use Rattle.std.proofs.Common.{◌≡◌, ◌≢◌, ◌<◌, ℕ, inl, inr, List, [], ◌∷◌, ◌++◌, map, get_or, Option, Some, None, refl, sym, ap, ◌∙◌, subst, append-nil}
use Rattle.std.specs.List.{filter, flat_map}
use Rattle.xb_model.specs.declared.line.TheConstants.{LINES}
use Rattle.xb_model.specs.declared.mark.Mark.{Mark}
use Rattle.xb_model.specs.declared.signal.Signal.{Signal}
use Rattle.xb_model.specs.declared.signal.Signal.TheVariants.{Seize, Digit, TimeOut, Release, Close}
use Rattle.xb_model.specs.LawfulLimits.{IsLawful}
use Rattle.xb_model.specs.Rows.{LoopRow}
use Rattle.xb_routes.specs.Table.{Table}
use Rattle.xb_live.specs.declared.fault.EntriesFault.{EntriesFault}
use Rattle.xb_live.specs.declared.fault.EntriesFault.TheVariants.{Late, LateEvent, NoMemory, Write}
use Rattle.xb_live.specs.declared.line_hearing.Hearing.{Hearing}
use Rattle.xb_live.specs.declared.hearings.Hearings.{Hearings}
use Rattle.xb_live.specs.declared.entry_text.EntryForm.{EntryForm}
use Rattle.xb_live.specs.declared.entry_text.EntryForm.TheVariants.{Entries, Events, Marks, Objects, MarkObjects}
use Rattle.xb_clock.specs.Clocks.{Clock}
use Rattle.xb_live.specs.Clocks.{IsLate, IsLateEvent, styled}
use Rattle.xb_live.specs.Counting.{numbered_by}
use Rattle.xb_live.specs.Entries.{Numbered}
use Rattle.xb_live.specs.EventObjects.{is_event}
use Rattle.xb_live.specs.Events.{Event, event_by, event_with, events_by, made_by}
use Rattle.xb_live.specs.Faults.{IsOfCompleted, IsOfRow}
use Rattle.xb_live.specs.Texts.{completed_text, event_text, row_text, signals_text, text_of}
use Rattle.xb_live.specs.TimedEntries.{TimedEntry, told_by}
use Rattle.xb_live.specs.Times.{ms_on}
use Rattle.xb_live.specs.Writing.{AreSignals, Hears, MakesLate}
use Rattle.xb_live.proofs.HeardRows.{at-is, dialled-is, heard_after}
use Rattle.xb_live.proofs.MadeSignals.{made-is}
use Rattle.xb_live.proofs.ToldRows.{fault-heard, text-heard}

-- where none is told, no text is
silent : {A : Type 0} (xs : List A) → flat_map (λ (x : A). let none : List ℕ = [] in none) xs ≡ []
silent [] = refl
silent (x ∷ xs) = silent xs

-- why a row is not printed
abbrev pub IsOfTold : Table → List LoopRow → LoopRow → List Mark → EntryForm → Option ℕ → EntriesFault → Type 0
IsOfTold table rows row marks form number NoMemory = Unit {0}
IsOfTold table rows row marks form number (Late l n) = (told : TimedEntry)
    × (map (told_by table (rows ++ row ∷ [])) (numbered_by row.line marks number) ≡ told ∷ []) × (told.line ≡ l) × (told.number ≡ n) × IsLate form told
IsOfTold table rows row marks form number (LateEvent l) = MakesLate form l table rows row
IsOfTold table rows row marks form number Write = ⊥

module _ (table : Table) (lawful : IsLawful table.limits) (rows : List LoopRow) (row : LoopRow) (marks : List Mark) where
  abbrev now : List LoopRow
  now = rows ++ row ∷ []

  -- a close is no text
  but-closes : (clock : Clock) (heard : Hearing) (form : EntryForm) (signals : List Signal)
      → flat_map (event_text form clock) (map (event_with row.line heard) signals) ≡ flat_map (event_text form clock) (map (event_with row.line heard) (filter is_event signals))
  but-closes clock heard form [] = refl
  but-closes clock heard form (Seize ∷ signals) = ap (λ text. event_text form clock (event_with row.line heard Seize) ++ text) (but-closes clock heard form signals)
  but-closes clock heard form (Digit count bad ∷ signals) = ap (λ text. event_text form clock (event_with row.line heard (Digit count bad)) ++ text) (but-closes clock heard form signals)
  but-closes clock heard form (TimeOut ∷ signals) = ap (λ text. event_text form clock (event_with row.line heard TimeOut) ++ text) (but-closes clock heard form signals)
  but-closes clock heard form (Release ∷ signals) = ap (λ text. event_text form clock (event_with row.line heard Release) ++ text) (but-closes clock heard form signals)
  but-closes clock heard form (Close ∷ signals) = ap (λ text. text ++ flat_map (event_text form clock) (map (event_with row.line heard) signals)) (closes form) ∙ but-closes clock heard form signals
    where
      closes : (form : EntryForm) → event_text form clock (event_with row.line heard Close) ≡ []
      closes Entries = refl
      closes Marks = refl
      closes (Objects since) = refl
      closes (MarkObjects since) = refl
      closes (Events since) = refl

  -- an event with what is heard is the event of the rows
  event-heard : (heard : Hearing) → heard ≡ heard_after table.limits table.plan row.line now → (signal : Signal) → event_with row.line heard signal ≡ event_by table now row.line signal
  event-heard heard is signal =
      ap (λ (h : Hearing). event_with row.line h signal) is
      ∙ ap (λ at. let event : Event = record { line = row.line; at = at; dialled = (heard_after table.limits table.plan row.line now).dialled; signal = signal } in event) (at-is table.limits table.plan row.line now)
      ∙ ap (λ dialled. let event : Event = record { line = row.line; at = ms_on row.line now; dialled = dialled; signal = signal } in event) (dialled-is table.limits table.plan lawful row.line now)

  events-heard : (heard : Hearing) → heard ≡ heard_after table.limits table.plan row.line now → (signals : List Signal) → map (event_with row.line heard) signals ≡ map (event_by table now row.line) signals
  events-heard heard is [] = refl
  events-heard heard is (signal ∷ signals) =
      ap (λ event. event ∷ map (event_with row.line heard) signals) (event-heard heard is signal)
      ∙ ap (λ events. event_by table now row.line signal ∷ events) (events-heard heard is signals)

  module _ (hearings : Hearings) (heard : Hearing) (below : row.line < LINES) (is : heard ≡ get_or hearings.lines row.line heard) where
    events-told : (form : EntryForm) (clock : Clock) (signals : List Signal) → Hears form table hearings now → AreSignals form table rows row signals
        → signals_text form clock row.line heard signals ≡ flat_map (event_text form clock) (events_by table rows row)
    events-told Entries clock signals hears are = sym (silent (events_by table rows row))
    events-told Marks clock signals hears are = sym (silent (events_by table rows row))
    events-told (Objects since) clock signals hears are = sym (silent (events_by table rows row))
    events-told (MarkObjects since) clock signals hears are = sym (silent (events_by table rows row))
    events-told (Events since) clock signals hears are =
        but-closes clock heard (Events since) signals
        ∙ ap (λ ss. flat_map (event_text (Events since) clock) (map (event_with row.line heard) ss))
        (ap (filter is_event) are ∙ sym (made-is table.limits table.plan lawful rows row))
        ∙ ap (flat_map (event_text (Events since) clock)) (events-heard heard (is ∙ hears.lines row.line heard below) (made_by table.limits rows row))

    entry-told : (form : EntryForm) (clock : Clock) (number : Option ℕ) → Hears form table hearings now
        → completed_text (styled form clock) row.line marks heard number ≡ flat_map (text_of (styled form clock)) (map (told_by table now) (numbered_by row.line marks number))
    entry-told form clock None hears = refl
    entry-told form clock (Some number) hears =
        let it : Numbered = record { line = row.line; number = number; marks = marks } in
        text-heard table lawful now it form clock hearings heard hears below is
        ∙ sym (append-nil (text_of (styled form clock) (told_by table now it)))

    -- the text of a row
    pub row-told : (form : EntryForm) (clock : Clock) (signals : List Signal) (number : Option ℕ) → Hears form table hearings now → AreSignals form table rows row signals
        → row_text (styled form clock) row.line signals number marks heard
        ≡ flat_map (event_text form clock) (events_by table rows row) ++ flat_map (text_of (styled form clock)) (map (told_by table now) (numbered_by row.line marks number))
    row-told form clock signals number hears are =
        ap (λ text. text ++ completed_text (styled form clock) row.line marks heard number) (events-told form clock signals hears are)
        ∙ ap (λ text. flat_map (event_text form clock) (events_by table rows row) ++ text) (entry-told form clock number hears)

    late-event : (form : EntryForm) (signals : List Signal) → Hears form table hearings now → AreSignals form table rows row signals
        → (l : ℕ) → row.line ≡ l → filter is_event signals ≢ [] → IsLateEvent form heard.at → MakesLate form l table rows row
    late-event Entries signals hears are l on some late = absurd late
    late-event Marks signals hears are l on some late = absurd late
    late-event (Objects since) signals hears are l on some late = absurd late
    late-event (MarkObjects since) signals hears are l on some late = absurd late
    late-event (Events since) signals hears are l on some late = (
      on,
      λ none. some (ap (filter is_event) are ∙ sym (made-is table.limits table.plan lawful rows row) ∙ none),
      subst (IsLateEvent (Events since))
          (ap (λ (h : Hearing). h.at) (is ∙ hears.lines row.line heard below) ∙ at-is table.limits table.plan row.line now ∙ ap (λ k. ms_on k now) on) late,
    )

    pub row-fault : (form : EntryForm) (signals : List Signal) (number : Option ℕ) → Hears form table hearings now → AreSignals form table rows row signals
        → (f : EntriesFault) → IsOfRow form row.line signals number marks heard f → IsOfTold table rows row marks form number f
    row-fault form signals number hears are NoMemory of = tt
    row-fault form signals number hears are (LateEvent l) (inl of) = late-event form signals hears are l of.0 of.1 of.2
    row-fault form signals number hears are (LateEvent l) (inr of) = absurd (none number of)
      where
        none : (number : Option ℕ) → IsOfCompleted form row.line marks heard number (LateEvent l) → ⊥
        none None of = cc of
        none (Some n) of = of
    row-fault form signals number hears are (Late l n) (inl of) = absurd of
    row-fault form signals number hears are (Late l n) (inr of) = late number of
      where
        late : (number : Option ℕ) → IsOfCompleted form row.line marks heard number (Late l n) → IsOfTold table rows row marks form number (Late l n)
        late None of = absurd (cc of)
        late (Some k) of =
            let it : Numbered = record { line = row.line; number = k; marks = marks } in
            let told = fault-heard table lawful now it form hearings heard hears below is (Late l n) of in
            (told_by table now it, refl, told.0, told.1, told.2)
    row-fault form signals number hears are Write (inl of) = absurd of
    row-fault form signals number hears are Write (inr of) = absurd (none number of)
      where
        none : (number : Option ℕ) → IsOfCompleted form row.line marks heard number Write → ⊥
        none None of = cc of
        none (Some n) of = of
