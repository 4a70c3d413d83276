-- All that is told of rows, one row after another.
use Rattle.std.proofs.Common.{◌≡◌, ℕ, eqb, inl, inr, List, [], ◌∷◌, ◌++◌, map, refl, sym, ap, ◌∙◌, subst, ⊎_elim, append_assoc, append-nil, eqb-true}
use Rattle.std.specs.List.{AllByRecursion, flat_map}
use Rattle.std.proofs.lemmas.Bool.{cases_Bool}
use Rattle.std.proofs.lemmas.List.{map-append}
use Rattle.std.proofs.lemmas.List.Concat.{flat_map-append}
use Rattle.xb_model.specs.declared.signal.Signal.{Signal}
use Rattle.xb_model.specs.LawfulLimits.{IsLawful}
use Rattle.xb_model.specs.Lines.{of_line, row_line}
use Rattle.xb_model.specs.Records.{attempts_of, record_up_to_close, rows_of}
use Rattle.xb_model.specs.Rows.{LoopRow}
use Rattle.xb_model.specs.Signals.{attempt_signals}
use Rattle.xb_model.proofs.Lines.{of_line-all, of_line-append, of_line-none, of_line-other}
use Rattle.xb_routes.specs.Table.{Table}
use Rattle.xb_live.specs.declared.entry_text.EntryForm.{EntryForm}
use Rattle.xb_live.specs.declared.entry_text.EntryForm.TheVariants.{Entries, Events, Marks, Objects, MarkObjects}
use Rattle.xb_live.specs.Clocks.{Style}
use Rattle.xb_live.specs.Events.{Event, event_by, event_line, events_by, made_by, signal_in, signals_on}
use Rattle.xb_live.specs.Texts.{TellsEntries, entries_text, event_text, text_of, told_text}
use Rattle.xb_live.specs.TimedEntries.{TimedEntry, told_after, told_in, told_of_rows}
use Rattle.xb_live.specs.Told.{TellsAll, Told, all_after, all_in, all_of_rows, entries_among, entry_of, event_of, events_among}
use Rattle.xb_live.proofs.MadeSignals.{made-more}
use Rattle.xb_live.proofs.ToldRows.{told_after-cons, told_after-none}

module _ (table : Table) where
  pub all-none : (earlier : List LoopRow) → all_after table earlier [] ≡ []
  unfolding all_after
  all-none earlier = refl

  pub all-cons : (earlier : List LoopRow) (row : LoopRow) (rows : List LoopRow) → all_after table earlier (row ∷ rows) ≡ all_in table earlier row ++ all_after table (earlier ++ row ∷ []) rows
  unfolding all_after
  all-cons earlier row rows = refl

  all-append : (earlier xs ys : List LoopRow) → all_after table earlier (xs ++ ys) ≡ all_after table earlier xs ++ all_after table (earlier ++ xs) ys
  all-append earlier [] ys =
      ap (λ rows. all_after table rows ys) (sym (append-nil earlier))
      ∙ ap (λ front. front ++ all_after table (earlier ++ []) ys) (sym (all-none earlier))
  all-append earlier (x ∷ xs) ys =
      all-cons earlier x (xs ++ ys)
      ∙ ap (λ later. all_in table earlier x ++ later)
      (all-append (earlier ++ x ∷ []) xs ys
      ∙ ap (λ rows. all_after table (earlier ++ x ∷ []) xs ++ all_after table rows ys) (append_assoc earlier (x ∷ []) xs))
      ∙ sym (append_assoc (all_in table earlier x) (all_after table (earlier ++ x ∷ []) xs) (all_after table (earlier ++ x ∷ xs) ys))
      ∙ ap (λ front. front ++ all_after table (earlier ++ x ∷ xs) ys) (sym (all-cons earlier x xs))

  pub all-more : (rows : List LoopRow) (row : LoopRow) → all_of_rows table (rows ++ row ∷ []) ≡ all_of_rows table rows ++ all_in table rows row
  all-more rows row =
      all-append [] rows (row ∷ [])
      ∙ ap (λ later. all_of_rows table rows ++ later)
      (all-cons rows row [] ∙ ap (λ later. all_in table rows row ++ later) (all-none (rows ++ row ∷ [])) ∙ append-nil (all_in table rows row))

  pub all_of_rows-none : all_of_rows table [] ≡ []
  all_of_rows-none = all-none []

  -- the events and the entries of a row
  pub events-here : (events : List Event) (tolds : List TimedEntry) → events_among (map inl events ++ map inr tolds) ≡ events
  events-here (event ∷ events) tolds = ap (λ es. event ∷ es) (events-here events tolds)
  events-here [] [] = refl
  events-here [] (told ∷ tolds) = events-here [] tolds

  entries-here : (events : List Event) (tolds : List TimedEntry) → entries_among (map inl events ++ map inr tolds) ≡ tolds
  entries-here (event ∷ events) tolds = entries-here events tolds
  entries-here [] [] = refl
  entries-here [] (told ∷ tolds) = ap (λ ts. told ∷ ts) (entries-here [] tolds)

  pub entries-all : (earlier rows : List LoopRow) → entries_among (all_after table earlier rows) ≡ told_after table earlier rows
  entries-all earlier [] = ap entries_among (all-none earlier) ∙ sym (told_after-none table earlier)
  entries-all earlier (row ∷ rows) =
      ap entries_among (all-cons earlier row rows)
      ∙ flat_map-append entry_of (all_in table earlier row) (all_after table (earlier ++ row ∷ []) rows)
      ∙ ap (λ front. front ++ entries_among (all_after table (earlier ++ row ∷ []) rows)) (entries-here (events_by table earlier row) (told_in table earlier row))
      ∙ ap (λ later. told_in table earlier row ++ later) (entries-all (earlier ++ row ∷ []) rows)
      ∙ sym (told_after-cons table earlier row rows)

  -- the events of a row are on its line, and tell its signals
  on-line : (rows : List LoopRow) (l : ℕ) (signals : List Signal) → AllByRecursion (λ event. event_line event ≡ l) (map (event_by table rows l) signals)
  on-line rows l [] = tt
  on-line rows l (signal ∷ signals) = (refl, on-line rows l signals)

  told-signals : (rows : List LoopRow) (l : ℕ) (signals : List Signal) → map signal_in (map (event_by table rows l) signals) ≡ signals
  told-signals rows l [] = refl
  told-signals rows l (signal ∷ signals) = ap (λ ss. signal ∷ ss) (told-signals rows l signals)

  module _ (lawful : IsLawful table.limits) (l : ℕ) where
    abbrev on_l : List Event → List Signal
    on_l events = map signal_in (of_line event_line l events)

    one-row : (earlier : List LoopRow) (row : LoopRow) → signals_on table.limits l earlier ++ on_l (events_by table earlier row) ≡ signals_on table.limits l (earlier ++ row ∷ [])
    one-row earlier row =
        ⊎_elim
        (λ h.
        let on : row.line ≡ l = eqb-true _ _ h in
        subst (λ k. signals_on table.limits k earlier ++ map signal_in (of_line event_line k (events_by table earlier row)) ≡ signals_on table.limits k (earlier ++ row ∷ [])) on
        (ap (λ events. signals_on table.limits row.line earlier ++ map signal_in events)
        (of_line-all event_line row.line (events_by table earlier row) (on-line (earlier ++ row ∷ []) row.line (made_by table.limits earlier row)))
        ∙ ap (λ signals. signals_on table.limits row.line earlier ++ signals) (told-signals (earlier ++ row ∷ []) row.line (made_by table.limits earlier row))
        ∙ sym (made-more table.limits table.plan lawful earlier row)))
        (λ h.
        ap (λ events. signals_on table.limits l earlier ++ map signal_in events)
        (of_line-none event_line l row.line (events_by table earlier row) (on-line (earlier ++ row ∷ []) row.line (made_by table.limits earlier row)) h)
        ∙ append-nil (signals_on table.limits l earlier)
        ∙ sym (ap (λ rs. flat_map (attempt_signals table.limits) (attempts_of table.limits (record_up_to_close rs)))
        (of_line-append row_line l earlier (row ∷ []) ∙ ap (λ rs. rows_of l earlier ++ rs) (of_line-other row_line l row [] h) ∙ append-nil (rows_of l earlier))))
        (cases_Bool (eqb (row_line row) l))

    signals-all : (earlier rows : List LoopRow) → signals_on table.limits l earlier ++ on_l (events_among (all_after table earlier rows)) ≡ signals_on table.limits l (earlier ++ rows)
    signals-all earlier [] =
        ap (λ all. signals_on table.limits l earlier ++ on_l (events_among all)) (all-none earlier)
        ∙ append-nil (signals_on table.limits l earlier)
        ∙ ap (signals_on table.limits l) (sym (append-nil earlier))
    signals-all earlier (row ∷ rows) =
        let later = all_after table (earlier ++ row ∷ []) rows in
        ap (λ events. signals_on table.limits l earlier ++ on_l events)
        (ap events_among (all-cons earlier row rows)
        ∙ flat_map-append event_of (all_in table earlier row) later
        ∙ ap (λ front. front ++ events_among later) (events-here (events_by table earlier row) (told_in table earlier row)))
        ∙ ap (λ events. signals_on table.limits l earlier ++ map signal_in events) (of_line-append event_line l (events_by table earlier row) (events_among later))
        ∙ ap (λ signals. signals_on table.limits l earlier ++ signals) (map-append signal_in (of_line event_line l (events_by table earlier row)) (of_line event_line l (events_among later)))
        ∙ sym (append_assoc (signals_on table.limits l earlier) (on_l (events_by table earlier row)) (on_l (events_among later)))
        ∙ ap (λ front. front ++ on_l (events_among later)) (one-row earlier row)
        ∙ signals-all (earlier ++ row ∷ []) rows
        ∙ ap (signals_on table.limits l) (append_assoc earlier (row ∷ []) rows)

pub tells_all : (table : Table) → IsLawful table.limits → (rows : List LoopRow) → TellsAll table rows
tells_all table lawful rows = record {
  signals = λ l. signals-all table lawful l [] rows;
  entries = entries-all table [] rows;
}

-- the text of a row
text-here : (style : Style) (events : List Event) (tolds : List TimedEntry)
    → flat_map (told_text style) (map inl events ++ map inr tolds) ≡ flat_map (event_text style.form style.clock) events ++ flat_map (text_of style) tolds
text-here style (event ∷ events) tolds =
    ap (λ text. event_text style.form style.clock event ++ text) (text-here style events tolds)
    ∙ sym (append_assoc (event_text style.form style.clock event) (flat_map (event_text style.form style.clock) events) (flat_map (text_of style) tolds))
text-here style [] [] = refl
text-here style [] (told ∷ tolds) = ap (λ text. text_of style told ++ text) (text-here style [] tolds)

-- the text of a row more
pub text-more : (style : Style) (table : Table) (rows : List LoopRow) (row : LoopRow)
    → entries_text style table (rows ++ row ∷ [])
    ≡ entries_text style table rows ++ (flat_map (event_text style.form style.clock) (events_by table rows row) ++ flat_map (text_of style) (told_in table rows row))
text-more style table rows row =
    ap (flat_map (told_text style)) (all-more table rows row)
    ∙ flat_map-append (told_text style) (all_of_rows table rows) (all_in table rows row)
    ∙ ap (λ text. entries_text style table rows ++ text) (text-here style (events_by table rows row) (told_in table rows row))

-- where events are not told, it is the text of the entries alone
no-events : (style : Style) → TellsEntries style.form → (event : Event) → event_text style.form style.clock event ≡ []
no-events style only event = at style.form only
  where
    at : (form : EntryForm) → TellsEntries form → event_text form style.clock event ≡ []
    at Entries only = refl
    at Marks only = refl
    at (Objects since) only = refl
    at (MarkObjects since) only = refl
    at (Events since) only = absurd only

text-among : (style : Style) → TellsEntries style.form → (all : List Told) → flat_map (told_text style) all ≡ flat_map (text_of style) (entries_among all)
text-among style only [] = refl
text-among style only (inl event ∷ all) = ap (λ text. text ++ flat_map (told_text style) all) (no-events style only event) ∙ text-among style only all
text-among style only (inr told ∷ all) = ap (λ text. text_of style told ++ text) (text-among style only all)

pub entries-alone : (style : Style) → TellsEntries style.form → (table : Table) (rows : List LoopRow) → entries_text style table rows ≡ flat_map (text_of style) (told_of_rows table rows)
entries-alone style only table rows = text-among style only (all_of_rows table rows) ∙ ap (flat_map (text_of style)) (entries-all table [] rows)
