-- The entries that rows complete, as they are told, one row after another.
use Rattle.std.proofs.Common.{◌≡◌, ◌<◌, List, [], ◌∷◌, ◌++◌, map, length, drop, get_or, refl, sym, subst, ap, ◌∙◌, append_assoc, append-nil}
use Rattle.std.proofs.Math.Seq.{drop-append_seam, drop-length}
use Rattle.std.proofs.lemmas.List.{map-append}
use Rattle.xb_model.specs.declared.dialled.Dialled.{Dialled}
use Rattle.xb_model.specs.declared.line.TheConstants.{LINES}
use Rattle.xb_model.specs.declared.on.On.{On}
use Rattle.xb_model.specs.declared.signal.Signal.{Signal}
use Rattle.xb_model.specs.Image.{image, image_after}
use Rattle.xb_model.specs.LawfulLimits.{IsLawful}
use Rattle.xb_model.specs.Lines.{on_line_of, row_line}
use Rattle.xb_model.specs.Rows.{LoopRow}
use Rattle.xb_model.proofs.Images.{image_after-append}
use Rattle.xb_pulse.specs.Machine.{machine as pulse_machine}
use Rattle.xb_register.specs.Machine.{machine as register_machine}
use Rattle.xb_routes.specs.Table.{Table}
use Rattle.xb_live.specs.declared.fault.EntriesFault.{EntriesFault}
use Rattle.xb_live.specs.declared.fault.EntriesFault.TheVariants.{Late, LateEvent, NoMemory, Write}
use Rattle.xb_live.specs.declared.line_hearing.Hearing.{Hearing}
use Rattle.xb_live.specs.declared.hearings.Hearings.{Hearings}
use Rattle.xb_live.specs.declared.entry_text.EntryForm.{EntryForm}
use Rattle.xb_live.specs.declared.entry_text.EntryForm.TheVariants.{Entries, Events, Marks, Objects, MarkObjects}
use Rattle.xb_clock.specs.Clocks.{Clock}
use Rattle.xb_live.specs.Clocks.{IsLate, styled}
use Rattle.xb_live.specs.Entries.{Entry, Numbered, entries_of_rows, numbered_after}
use Rattle.xb_live.specs.Faults.{IsOfEntry}
use Rattle.xb_live.specs.Texts.{text_of}
use Rattle.xb_live.specs.TimedEntries.{TimedEntry, completed_by, entry_in, told_after, told_by, told_in, told_of_rows, told_with}
use Rattle.xb_live.specs.Writing.{Hears}
use Rattle.xb_live.proofs.BegunAttempts.{began-is}
use Rattle.xb_live.proofs.Completed.{dialled_of, entries-dialled, entry_from}
use Rattle.xb_live.proofs.HeardRows.{at-is, dialled-is, heard_after}
use Rattle.xb_live.proofs.Numbers.{numbered_after-append, numbered_after-none}

module _ (table : Table) where
  pub told_after-none : (earlier : List LoopRow) → told_after table earlier [] ≡ []
  unfolding told_after
  told_after-none earlier = refl

  -- what one row completes
  abbrev here : List LoopRow → LoopRow → List TimedEntry
  here earlier row = told_in table earlier row

  pub told_after-cons : (earlier : List LoopRow) (row : LoopRow) (rows : List LoopRow) → told_after table earlier (row ∷ rows) ≡ here earlier row ++ told_after table (earlier ++ row ∷ []) rows
  unfolding told_after
  told_after-cons earlier row rows = refl

  told_after-append : (earlier xs ys : List LoopRow) → told_after table earlier (xs ++ ys) ≡ told_after table earlier xs ++ told_after table (earlier ++ xs) ys
  told_after-append earlier [] ys =
      ap (λ rows. told_after table rows ys) (sym (append-nil earlier))
      ∙ ap (λ front. front ++ told_after table (earlier ++ []) ys) (sym (told_after-none earlier))
  told_after-append earlier (x ∷ xs) ys =
      told_after-cons earlier x (xs ++ ys)
      ∙ ap (λ later. here earlier x ++ later)
      (told_after-append (earlier ++ x ∷ []) xs ys
      ∙ ap (λ rows. told_after table (earlier ++ x ∷ []) xs ++ told_after table rows ys) (append_assoc earlier (x ∷ []) xs))
      ∙ sym (append_assoc (here earlier x) (told_after table (earlier ++ x ∷ []) xs) (told_after table (earlier ++ x ∷ xs) ys))
      ∙ ap (λ front. front ++ told_after table (earlier ++ x ∷ xs) ys) (sym (told_after-cons earlier x xs))

  -- what a row completes, by its marks
  pub told-here : (rows : List LoopRow) (row : LoopRow) (more : List Entry) (numbered : List Numbered)
      → entries_of_rows table (rows ++ row ∷ []) ≡ entries_of_rows table rows ++ more
      → numbered_after (entries_of_rows table rows) more ≡ numbered
      → told_in table rows row ≡ map (told_by table (rows ++ row ∷ [])) numbered
  told-here rows row more numbered completed is =
      ap (λ entries. map (told_by table (rows ++ row ∷ [])) (numbered_after (entries_of_rows table rows) entries))
      (ap (drop (length (entries_of_rows table rows))) completed ∙ drop-append_seam (entries_of_rows table rows) more)
      ∙ ap (map (told_by table (rows ++ row ∷ []))) is

  -- a row more tells the entries that it completes
  pub told-more : (rows : List LoopRow) (row : LoopRow) (more : List Entry) (numbered : List Numbered)
      → entries_of_rows table (rows ++ row ∷ []) ≡ entries_of_rows table rows ++ more
      → numbered_after (entries_of_rows table rows) more ≡ numbered
      → told_of_rows table (rows ++ row ∷ []) ≡ told_of_rows table rows ++ map (told_by table (rows ++ row ∷ [])) numbered
  told-more rows row more numbered completed is =
      told_after-append [] rows (row ∷ [])
      ∙ ap (λ later. told_of_rows table rows ++ later)
      (told_after-cons rows row []
      ∙ ap (λ later. here rows row ++ later) (told_after-none (rows ++ row ∷ []))
      ∙ append-nil (here rows row)
      ∙ told-here rows row more numbered completed is)

  -- the entries that more rows complete come after those of the first
  later_entries : (xs ys : List LoopRow) → (more : List Entry) × (entries_of_rows table (xs ++ ys) ≡ entries_of_rows table xs ++ more)
  later_entries xs ys =
      let heard : List LoopRow → List (On Signal) = image row_line (pulse_machine table.limits) in
      let later : List (On Signal) = image_after row_line (pulse_machine table.limits) xs ys in
      let dialled : List (On Dialled) = image_after on_line_of (register_machine table.plan) (heard xs) later in (
        map (entry_from table) dialled,
        entries-dialled table (xs ++ ys)
            ∙ ap (map (entry_from table))
            (ap (image on_line_of (register_machine table.plan)) (image_after-append row_line (pulse_machine table.limits) [] xs ys)
            ∙ image_after-append on_line_of (register_machine table.plan) [] (heard xs) later)
            ∙ map-append (entry_from table) (dialled_of table xs) dialled
            ∙ ap (λ entries. entries ++ map (entry_from table) dialled) (sym (entries-dialled table xs)),
      )

  told-alone : (rows : List LoopRow) (entries : List Numbered) → map entry_in (map (told_by table rows) entries) ≡ entries
  told-alone rows [] = refl
  told-alone rows (entry ∷ entries) = ap (λ es. entry ∷ es) (told-alone rows entries)

  -- without what is told of them they are the entries with their numbers
  told-numbered : (earlier rows : List LoopRow)
      → map entry_in (told_after table earlier rows) ≡ numbered_after (entries_of_rows table earlier) (drop (length (entries_of_rows table earlier)) (entries_of_rows table (earlier ++ rows)))
  told-numbered earlier [] =
      ap (map entry_in) (told_after-none earlier)
      ∙ sym (numbered_after-none (entries_of_rows table earlier))
      ∙ sym (ap (λ entries. numbered_after (entries_of_rows table earlier) entries)
      (ap (λ rows. drop (length (entries_of_rows table earlier)) (entries_of_rows table rows)) (append-nil earlier) ∙ drop-length (entries_of_rows table earlier)))
  told-numbered earlier (row ∷ rows) =
      let first : List LoopRow = earlier ++ row ∷ [] in
      let before : List Entry = entries_of_rows table earlier in
      let one = later_entries earlier (row ∷ []) in
      let rest = later_entries first rows in
      let whole : entries_of_rows table (earlier ++ row ∷ rows) ≡ before ++ (one.0 ++ rest.0)
      = ap (entries_of_rows table) (sym (append_assoc earlier (row ∷ []) rows)) ∙ rest.1 ∙ ap (λ front. front ++ rest.0) one.1 ∙ append_assoc before one.0 rest.0 in
      ap (map entry_in) (told_after-cons earlier row rows)
      ∙ map-append entry_in (here earlier row) (told_after table first rows)
      ∙ ap (λ front. front ++ map entry_in (told_after table first rows))
      (told-alone first (numbered_after before (completed_by table earlier row))
      ∙ ap (numbered_after before) (ap (drop (length before)) one.1 ∙ drop-append_seam before one.0))
      ∙ ap (λ later. numbered_after before one.0 ++ later)
      (told-numbered first rows
      ∙ ap (numbered_after (entries_of_rows table first)) (ap (drop (length (entries_of_rows table first))) rest.1 ∙ drop-append_seam (entries_of_rows table first) rest.0)
      ∙ ap (λ entries. numbered_after entries rest.0) one.1)
      ∙ sym (numbered_after-append before one.0 rest.0)
      ∙ sym (ap (numbered_after before) (ap (drop (length before)) whole ∙ drop-append_seam before (one.0 ++ rest.0)))

  entries-none : entries_of_rows table [] ≡ []
  unfolding image_after
  entries-none = refl

  -- so those of all rows are
  pub told-all : (rows : List LoopRow) → map entry_in (told_of_rows table rows) ≡ numbered_after [] (entries_of_rows table rows)
  told-all rows =
      told-numbered [] rows
      ∙ ap (λ earlier. numbered_after earlier (drop (length earlier) (entries_of_rows table rows))) entries-none

-- what is heard of a line is what is told of its entry
module _ (table : Table) (lawful : IsLawful table.limits) (rows : List LoopRow) (entry : Numbered) where
  told-heard : (heard : Hearing) → heard ≡ heard_after table.limits table.plan entry.line rows → told_with entry.line entry.number entry.marks heard ≡ told_by table rows entry
  told-heard heard is =
      ap (λ (h : Hearing). told_with entry.line entry.number entry.marks h) is
      ∙ ap (λ began. let now = heard_after table.limits table.plan entry.line rows in
      let told : TimedEntry = record { line = entry.line; number = entry.number; marks = entry.marks; began = began; at = now.at; dialled = now.dialled } in told) (began-is table.limits table.plan lawful entry.line rows)
      ∙ ap (λ at. let now = heard_after table.limits table.plan entry.line rows in
      let told : TimedEntry = record { line = entry.line; number = entry.number; marks = entry.marks; began = (told_by table rows entry).began; at = at; dialled = now.dialled } in told) (at-is table.limits table.plan entry.line rows)
      ∙ ap (λ dialled. let told : TimedEntry = record { line = entry.line; number = entry.number; marks = entry.marks; began = (told_by table rows entry).began; at = (told_by table rows entry).at; dialled = dialled } in told) (dialled-is table.limits table.plan lawful entry.line rows)

  -- so its text is the same
  pub text-heard : (form : EntryForm) (clock : Clock) (hearings : Hearings) (heard : Hearing) → Hears form table hearings rows → entry.line < LINES → heard ≡ get_or hearings.lines entry.line heard
      → text_of (styled form clock) (told_with entry.line entry.number entry.marks heard) ≡ text_of (styled form clock) (told_by table rows entry)
  text-heard Entries clock hearings heard hears below is = refl
  text-heard Marks clock hearings heard hears below is = refl
  text-heard (Objects since) clock hearings heard hears below is =
      ap (text_of (styled (Objects since) clock)) (told-heard heard (is ∙ hears.lines entry.line heard below))
  text-heard (MarkObjects since) clock hearings heard hears below is =
      ap (text_of (styled (MarkObjects since) clock)) (told-heard heard (is ∙ hears.lines entry.line heard below))
  text-heard (Events since) clock hearings heard hears below is =
      ap (text_of (styled (Events since) clock)) (told-heard heard (is ∙ hears.lines entry.line heard below))

  -- and its times are past the last instant where these are
  pub late-heard : (form : EntryForm) (hearings : Hearings) (heard : Hearing) → Hears form table hearings rows → entry.line < LINES → heard ≡ get_or hearings.lines entry.line heard
      → IsLate form (told_with entry.line entry.number entry.marks heard) → IsLate form (told_by table rows entry)
  late-heard Entries hearings heard hears below is late = late
  late-heard Marks hearings heard hears below is late = late
  late-heard (Objects since) hearings heard hears below is late =
      subst (IsLate (Objects since)) (told-heard heard (is ∙ hears.lines entry.line heard below)) late
  late-heard (MarkObjects since) hearings heard hears below is late =
      subst (IsLate (MarkObjects since)) (told-heard heard (is ∙ hears.lines entry.line heard below)) late
  late-heard (Events since) hearings heard hears below is late =
      subst (IsLate (Events since)) (told-heard heard (is ∙ hears.lines entry.line heard below)) late

  -- nor is it printed for another reason
  pub fault-heard : (form : EntryForm) (hearings : Hearings) (heard : Hearing) → Hears form table hearings rows → entry.line < LINES → heard ≡ get_or hearings.lines entry.line heard
      → (f : EntriesFault) → IsOfEntry form (told_with entry.line entry.number entry.marks heard) f → IsOfEntry form (told_by table rows entry) f
  fault-heard form hearings heard hears below is NoMemory of = of
  fault-heard form hearings heard hears below is (Late line number) (same, numbered, late) = (same, numbered, late-heard form hearings heard hears below is late)
  fault-heard form hearings heard hears below is (LateEvent line) of = of
  fault-heard form hearings heard hears below is Write of = of
