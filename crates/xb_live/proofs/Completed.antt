-- The entries that rows complete: one for each outcome of the register.
use Rattle.std.proofs.Common.{◌≡◌, ℕ, true, List, [], ◌∷◌, ◌++◌, map, refl, sym, ap, ◌∙◌, subst, ⊎_elim, append_assoc, append-nil}
use Rattle.std.specs.List.{AllByRecursion, flat_map}
use Rattle.std.proofs.lemmas.Bool.{cond-true, cond-false}
use Rattle.xb_model.specs.declared.dialled.Dialled.{Dialled}
use Rattle.xb_model.specs.declared.mark.Mark.{Mark}
use Rattle.xb_model.specs.declared.on.On.{On}
use Rattle.xb_model.specs.Keyings.{is_ending, marks_of}
use Rattle.xb_model.specs.Lines.{row_line, on_line_of}
use Rattle.xb_model.specs.Routing.{order_of}
use Rattle.xb_model.specs.Rows.{LoopRow}
use Rattle.xb_model.specs.Tapes.{EndsAtLast, IsUnended}
use Rattle.xb_model.proofs.Entries.{marks_of-last}
use Rattle.xb_model.specs.Image.{image}
use Rattle.xb_model.specs.OnLines.{on_line}
use Rattle.xb_pulse.specs.Machine.{machine as pulse_machine}
use Rattle.xb_register.specs.Machine.{machine as register_machine}
use Rattle.xb_routes.specs.Table.{Table}
use Rattle.xb_tape.specs.GatheredMarks.{whats_of}
use Rattle.xb_serial.specs.Chain.{keyed}
use Rattle.xb_serial.specs.Office.{IsEntryOrNone, marks_of_rows}
use Rattle.xb_serial.proofs.Fusion.{keyed-in_turn}
use Rattle.xb_live.specs.Entries.{Entry, entries_given, entries_of_rows, entry_on, into_first}
use Rattle.xb_live.specs.Counting.{entry_of}

-- marks of a line are cut after the first that ends an entry
entries_given-cut : (line : ℕ) (front : List Mark) (last : Mark) (rest : List (On Mark)) → IsUnended front → is_ending last ≡ true
    → entries_given (on_line line (front ++ last ∷ []) ++ rest) ≡ entry_on line (front ++ last ∷ []) ∷ entries_given rest
entries_given-cut line [] last rest goes_on ends = cond-true _ _ _ ends
entries_given-cut line (mark ∷ front) last rest goes_on ends =
    cond-false _ _ _ goes_on.0
    ∙ ap (into_first (record { line = line; what = mark })) (entries_given-cut line front last rest goes_on.1 ends)

-- marks of a line of which exactly the last ends an entry are one entry, whatever comes after them
entries_given-entry : (line : ℕ) (marks : List Mark) (rest : List (On Mark)) → EndsAtLast marks
    → entries_given (on_line line marks ++ rest) ≡ entry_on line marks ∷ entries_given rest
entries_given-entry line marks rest ends =
    subst (λ ms. entries_given (on_line line ms ++ rest) ≡ entry_on line ms ∷ entries_given rest) (sym ends.parts)
    (entries_given-cut line ends.earlier ends.last rest ends.goes_on ends.ends)

-- marks that are all on a line are its marks, on it
on_line-whats : (line : ℕ) (given : List (On Mark)) → AllByRecursion (λ mark. on_line_of mark ≡ line) given → on_line line (whats_of given) ≡ given
on_line-whats line [] on = refl
on_line-whats line (mark ∷ given) on =
    ap (λ l. record { line = l; what = mark.what } ∷ on_line line (whats_of given)) (sym on.0)
    ∙ ap (λ marks. mark ∷ marks) (on_line-whats line given on.1)

-- what is an entry has marks
entry_of-some : (line : ℕ) (marks : List Mark) → EndsAtLast marks → entry_of line marks ≡ entry_on line marks ∷ []
entry_of-some line marks ends =
    subst (λ ms. entry_of line ms ≡ entry_on line ms ∷ []) (sym ends.parts) (has ends.earlier ends.last)
  where
    has : (earlier : List Mark) (last : Mark) → entry_of line (earlier ++ last ∷ []) ≡ entry_on line (earlier ++ last ∷ []) ∷ []
    has [] last = refl
    has (mark ∷ earlier) last = refl

-- what a row gives is its entry, or none
given-entry : (line : ℕ) (given : List (On Mark)) → AllByRecursion (λ mark. on_line_of mark ≡ line) given → IsEntryOrNone given
    → entries_given given ≡ entry_of line (whats_of given)
given-entry line given on one =
    ⊎_elim
    (λ none. rw none refl)
    (λ ends.
    ap entries_given (sym (on_line-whats line given on) ∙ sym (append-nil _))
    ∙ entries_given-entry line (whats_of given) [] ends
    ∙ sym (entry_of-some line (whats_of given) ends))
    one

module _ (table : Table) where
  -- the entry of an outcome
  abbrev pub entry_from : On Dialled → Entry
  entry_from outcome = entry_on outcome.line (marks_of (order_of table.routes outcome.what))

  -- what comes of the attempts in rows
  abbrev pub dialled_of : List LoopRow → List (On Dialled)
  dialled_of rows = image on_line_of (register_machine table.plan) (image row_line (pulse_machine table.limits) rows)

  pub marks-dialled : (rows : List LoopRow) → marks_of_rows table rows ≡ flat_map (keyed table) (dialled_of rows)
  marks-dialled rows = keyed-in_turn table (dialled_of rows)

  -- each outcome gives one entry, whatever comes after them
  given-dialled : (dialled : List (On Dialled)) (later : List (On Mark))
      → entries_given (flat_map (keyed table) dialled ++ later) ≡ map entry_from dialled ++ entries_given later
  given-dialled [] later = refl
  given-dialled (outcome ∷ dialled) later =
      ap entries_given (append_assoc (keyed table outcome) (flat_map (keyed table) dialled) later)
      ∙ entries_given-entry outcome.line (marks_of (order_of table.routes outcome.what)) (flat_map (keyed table) dialled ++ later) (marks_of-last (order_of table.routes outcome.what))
      ∙ ap (λ entries. entry_from outcome ∷ entries) (given-dialled dialled later)

  pub entries-dialled : (rows : List LoopRow) → entries_of_rows table rows ≡ map entry_from (dialled_of rows)
  entries-dialled rows =
      ap entries_given (marks-dialled rows ∙ sym (append-nil _))
      ∙ given-dialled (dialled_of rows) []
      ∙ append-nil _

  -- a row more completes the entry that it gives
  pub entries-more : (rows : List LoopRow) (row : LoopRow) (given : List (On Mark))
      → marks_of_rows table (rows ++ row ∷ []) ≡ marks_of_rows table rows ++ given
      → AllByRecursion (λ mark. on_line_of mark ≡ row_line row) given → IsEntryOrNone given
      → entries_of_rows table (rows ++ row ∷ []) ≡ entries_of_rows table rows ++ entry_of (row_line row) (whats_of given)
  entries-more rows row given more on one =
      ap entries_given (more ∙ ap (λ marks. marks ++ given) (marks-dialled rows))
      ∙ given-dialled (dialled_of rows) given
      ∙ ap (λ entries. entries ++ entries_given given) (sym (entries-dialled rows))
      ∙ ap (λ entries. entries_of_rows table rows ++ entries) (given-entry (row_line row) given on one)
