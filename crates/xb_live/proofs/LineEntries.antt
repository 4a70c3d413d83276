-- The entries of each line, among those that rows complete.
use Rattle.std.proofs.Common.{◌≡◌, ℕ, zero, suc, ◌+◌, ◌<◌, ◌≤◌, eqb, List, [], ◌∷◌, ◌++◌, map, length, refl, sym, ap, ◌∙◌, subst, ⊎_elim, arith, append-nil, eq-eqb, eqb-true, length-append}
use Rattle.std.specs.List.{AllByRecursion, flat_map}
use Rattle.std.proofs.lemmas.Bool.{cases_Bool, cases_lt, ne_eqb}
use Rattle.std.proofs.lemmas.List.{map-append}
use Rattle.std.proofs.lemmas.Simd.{map-map}
use Rattle.xb_model.specs.declared.dialled.Dialled.{Dialled}
use Rattle.xb_model.specs.declared.line.TheConstants.{LINES}
use Rattle.xb_model.specs.declared.mark.Mark.{Mark}
use Rattle.xb_model.specs.declared.on.On.{On}
use Rattle.xb_model.specs.Keyings.{marks_of}
use Rattle.xb_model.specs.LawfulLimits.{IsLawful}
use Rattle.xb_model.specs.Lines.{row_line, on_line_of, of_line, lines_below}
use Rattle.xb_model.specs.Records.{closes, record_up_to_close, rows_of}
use Rattle.xb_model.specs.Routing.{order_of}
use Rattle.xb_model.specs.Rows.{LoopRow, close_row}
use Rattle.xb_model.specs.Tapes.{entries_of, joined_tape}
use Rattle.xb_model.proofs.Entries.{entries_of-flat_map}
use Rattle.xb_model.proofs.Lines.{of_line-append, of_line-here, of_line-other, of_line-all, of_line-none}
use Rattle.xb_model.proofs.LinesBelow.{lines_below-none, lines_below-more}
use Rattle.xb_model.specs.OnLines.{all_on}
use Rattle.xb_model.proofs.Images.{image_after-none}
use Rattle.xb_routes.specs.Table.{Table}
use Rattle.xb_tape.specs.GatheredMarks.{whats_of}
use Rattle.xb_images.proofs.LineTapes.{whats_of-on_line}
use Rattle.xb_serial.specs.Chain.{keyed, live_machine}
use Rattle.xb_serial.specs.Office.{marks_of_rows}
use Rattle.xb_serial.specs.Promises.{marks_on}
use Rattle.xb_serial.proofs.Ends.{with_close, closes-with_close, record-with_close, record_tape}
use Rattle.xb_serial.proofs.Fusion.{fusion}
use Rattle.xb_serial.proofs.Promises.{chain_keeps_promises}
use Rattle.xb_live.specs.Counting.{AreOnLines}
use Rattle.xb_live.specs.Entries.{Entry, Numbered, entries_of_rows, next_number, numbered_after}
use Rattle.xb_live.specs.Texts.{with_closes}
use Rattle.xb_live.proofs.Completed.{dialled_of, entries-dialled, entry_from, marks-dialled}
use Rattle.xb_live.proofs.Sheets.{line_of, numbered_from}

-- the entries of rows that end, with their numbers
abbrev pub numbered_entries : Table → List LoopRow → List Numbered
numbered_entries table rows = numbered_after [] (entries_of_rows table (with_closes rows))

-- the marks of entries
abbrev pub marks_in : List Entry → List (List Mark)
marks_in entries = map (λ (entry : Entry). entry.what) entries

-- numbered entries of a line are its entries, numbered
pub numbered-of_line : (l : ℕ) (earlier entries : List Entry)
    → of_line line_of l (numbered_after earlier entries) ≡ numbered_from l (next_number earlier l) (marks_in (of_line on_line_of l entries))
unfolding numbered_after
numbered-of_line l earlier [] = refl
numbered-of_line l earlier (entry ∷ entries) =
    let first : Numbered = record { line = entry.line; number = next_number earlier entry.line; marks = entry.what } in
    let later : List Numbered = numbered_after (earlier ++ entry ∷ []) entries in
    let rest = numbered-of_line l (earlier ++ entry ∷ []) entries in
    ⊎_elim
    (λ here.
    let on : entry.line ≡ l = eqb-true _ _ here in
    let next : next_number (earlier ++ entry ∷ []) l ≡ next_number earlier l + 1 =
    ap (λ k. k + 1) (ap length (of_line-append on_line_of l earlier (entry ∷ []) ∙ ap (λ es. of_line on_line_of l earlier ++ es) (of_line-here on_line_of l entry [] here)) ∙ length-append (of_line on_line_of l earlier) (entry ∷ [])) in
    of_line-here line_of l first later here
    ∙ ap (λ es. first ∷ es) (rest ∙ ap (λ n. numbered_from l n (marks_in (of_line on_line_of l entries))) next)
    ∙ ap (λ k. let e : Numbered = record { line = k; number = next_number earlier k; marks = entry.what } in e ∷ numbered_from l (next_number earlier l + 1) (marks_in (of_line on_line_of l entries))) on
    ∙ sym (ap (λ es. numbered_from l (next_number earlier l) (marks_in es)) (of_line-here on_line_of l entry entries here)))
    (λ other.
    let next : next_number (earlier ++ entry ∷ []) l ≡ next_number earlier l =
    ap (λ es. length es + 1) (of_line-append on_line_of l earlier (entry ∷ []) ∙ ap (λ es. of_line on_line_of l earlier ++ es) (of_line-other on_line_of l entry [] other) ∙ append-nil _) in
    of_line-other line_of l first later other
    ∙ rest
    ∙ ap (λ n. numbered_from l n (marks_in (of_line on_line_of l entries))) next
    ∙ sym (ap (λ es. numbered_from l (next_number earlier l) (marks_in es)) (of_line-other on_line_of l entry entries other)))
    (cases_Bool (eqb entry.line l))

module _ (table : Table) where
  -- the entry of an outcome, without its line
  abbrev pub keying : On Dialled → List Mark
  keying outcome = marks_of (order_of table.routes outcome.what)

  -- the entries of a line are those of its outcomes
  of_line-entries : (l : ℕ) (dialled : List (On Dialled)) → marks_in (of_line on_line_of l (map (entry_from table) dialled)) ≡ map keying (of_line on_line_of l dialled)
  of_line-entries l [] = refl
  of_line-entries l (outcome ∷ dialled) =
      ⊎_elim
      (λ here.
      ap marks_in (of_line-here on_line_of l (entry_from table outcome) (map (entry_from table) dialled) here)
      ∙ ap (λ es. keying outcome ∷ es) (of_line-entries l dialled)
      ∙ sym (ap (map keying) (of_line-here on_line_of l outcome dialled here)))
      (λ other.
      ap marks_in (of_line-other on_line_of l (entry_from table outcome) (map (entry_from table) dialled) other)
      ∙ of_line-entries l dialled
      ∙ sym (ap (map keying) (of_line-other on_line_of l outcome dialled other)))
      (cases_Bool (eqb outcome.line l))

  -- and so are its marks
  pub of_line-marks : (l : ℕ) (dialled : List (On Dialled)) → marks_on l (flat_map (keyed table) dialled) ≡ flat_map keying (of_line on_line_of l dialled)
  of_line-marks l [] = refl
  of_line-marks l (outcome ∷ dialled) =
      let own : List (On Mark) = keyed table outcome in
      let rest : List (On Mark) = flat_map (keyed table) dialled in
      ap whats_of (of_line-append on_line_of l own rest)
      ∙ map-append (λ (mark : On Mark). mark.what) (of_line on_line_of l own) (of_line on_line_of l rest)
      ∙ ap (λ marks. marks_on l own ++ marks) (of_line-marks l dialled)
      ∙ ⊎_elim
      (λ here.
      let on : outcome.line ≡ l = eqb-true _ _ here in
      ap (λ marks. marks ++ flat_map keying (of_line on_line_of l dialled))
      (ap whats_of (of_line-all on_line_of l own (subst (λ k. AllByRecursion (λ (mark : On Mark). on_line_of mark ≡ k) own) on (all_on outcome.line (keying outcome)))) ∙ whats_of-on_line outcome.line (keying outcome))
      ∙ sym (ap (flat_map keying) (of_line-here on_line_of l outcome dialled here)))
      (λ other.
      ap (λ marks. marks ++ flat_map keying (of_line on_line_of l dialled))
      (ap whats_of (of_line-none on_line_of l outcome.line own (all_on outcome.line (keying outcome)) other))
      ∙ sym (ap (flat_map keying) (of_line-other on_line_of l outcome dialled other)))
      (cases_Bool (eqb outcome.line l))

  joined-keyings : (dialled : List (On Dialled)) → entries_of (flat_map keying dialled) ≡ map keying dialled
  joined-keyings dialled =
      ap entries_of (along dialled)
      ∙ entries_of-flat_map (map (λ (outcome : On Dialled). order_of table.routes outcome.what) dialled)
      ∙ map-map marks_of (λ (outcome : On Dialled). order_of table.routes outcome.what) dialled
    where
      along : (xs : List (On Dialled)) → flat_map keying xs ≡ flat_map marks_of (map (λ (outcome : On Dialled). order_of table.routes outcome.what) xs)
      along [] = refl
      along (x ∷ xs) = ap (λ ms. keying x ++ ms) (along xs)

  -- so the entries of a line, among those of all lines, are those of its marks
  pub entries-of_line : (l : ℕ) (rows : List LoopRow) → marks_in (of_line on_line_of l (entries_of_rows table rows)) ≡ entries_of (marks_on l (marks_of_rows table rows))
  entries-of_line l rows =
      ap (λ es. marks_in (of_line on_line_of l es)) (entries-dialled table rows)
      ∙ of_line-entries l (dialled_of table rows)
      ∙ sym (joined-keyings (of_line on_line_of l (dialled_of table rows)))
      ∙ sym (ap entries_of (of_line-marks l (dialled_of table rows)))
      ∙ sym (ap (λ marks. entries_of (marks_on l marks)) (marks-dialled table rows))

-- the closes of the lines below n
abbrev closes_below : ℕ → List LoopRow
closes_below n = map close_row (lines_below n)

closes-more : (n l : ℕ) → rows_of l (closes_below (n + 1)) ≡ rows_of l (closes_below n) ++ rows_of l (close_row n ∷ [])
closes-more n l =
    ap (λ ls. rows_of l (map close_row ls)) (lines_below-more n)
    ∙ ap (rows_of l) (map-append close_row (lines_below n) (n ∷ []))
    ∙ of_line-append row_line l (closes_below n) (close_row n ∷ [])

-- no other line has one
closes-none : (n l : ℕ) → n ≤ l → rows_of l (closes_below n) ≡ []
closes-none zero l above = ap (λ ls. rows_of l (map close_row ls)) lines_below-none
closes-none (suc n) l above =
    let on : suc n ≡ n + 1 = omega arith in
    ap (λ k. rows_of l (closes_below k)) on
    ∙ closes-more n l
    ∙ ap (λ rows. rows ++ rows_of l (close_row n ∷ [])) (closes-none n l (omega (arith, above)))
    ∙ of_line-other row_line l (close_row n) [] (ne_eqb _ _ (λ e. omega (arith, e, above)))

-- and each of them has one
closes-one : (n l : ℕ) → l < n → rows_of l (closes_below n) ≡ close_row l ∷ []
closes-one zero l below = absurd (omega (arith, below))
closes-one (suc n) l below =
    let on : suc n ≡ n + 1 = omega arith in
    ap (λ k. rows_of l (closes_below k)) on
    ∙ closes-more n l
    ∙ ⊎_elim
    (λ lower.
    ap (λ rows. rows ++ rows_of l (close_row n ∷ [])) (closes-one n l lower)
    ∙ ap (λ rows. close_row l ∷ rows) (of_line-other row_line l (close_row n) [] (ne_eqb _ _ (λ e. omega (arith, e, lower)))))
    (λ last.
    let e : n ≡ l = omega (arith, below, last) in
    ap (λ rows. rows ++ rows_of l (close_row n ∷ [])) (closes-none n l last)
    ∙ of_line-here row_line l (close_row n) [] (eq-eqb _ _ e)
    ∙ ap (λ k. close_row k ∷ []) e)
    (cases_lt l n)

-- the rows of a line, and its close
rows_of-with_closes : (l : ℕ) (rows : List LoopRow) → l < LINES → rows_of l (with_closes rows) ≡ with_close l (rows_of l rows)
rows_of-with_closes l rows below =
    of_line-append row_line l rows (closes_below LINES) ∙ ap (λ more. rows_of l rows ++ more) (closes-one LINES l below)

rows_of-above : (l : ℕ) (rows : List LoopRow) → LINES ≤ l → AreOnLines rows → rows_of l rows ≡ []
rows_of-above l [] above on = refl
rows_of-above l (row ∷ rows) above on = of_line-other row_line l row rows (ne_eqb _ _ (λ e. omega (arith, e, above, on.0))) ∙ rows_of-above l rows above on.1

module _ (table : Table) (lawful : IsLawful table.limits) (rows : List LoopRow) where
  -- the marks of a line that is closed are its tape
  marks-closed : (l : ℕ) → l < LINES → marks_on l (marks_of_rows table (with_closes rows)) ≡ joined_tape table.plan table.limits table.routes l rows
  marks-closed l below =
      let own = rows_of-with_closes l rows below in
      (chain_keeps_promises table lawful (with_closes rows) (marks_of_rows table (with_closes rows)) refl).whole l
      (ap closes own ∙ closes-with_close l (rows_of l rows))
      ∙ ap (record_tape table) (ap record_up_to_close own ∙ record-with_close l (rows_of l rows))

  -- the entries of a line are those of its tape, numbered from 1
  pub line-sheet : (l : ℕ) → l < LINES
      → of_line line_of l (numbered_entries table rows) ≡ numbered_from l 1 (entries_of (joined_tape table.plan table.limits table.routes l rows))
  line-sheet l below =
      numbered-of_line l [] (entries_of_rows table (with_closes rows))
      ∙ ap (numbered_from l 1) (entries-of_line table l (with_closes rows) ∙ ap entries_of (marks-closed l below))

  -- beyond the lines there are none
  pub line-none : AreOnLines rows → (l : ℕ) → LINES ≤ l → of_line line_of l (numbered_entries table rows) ≡ []
  line-none on l above =
      let own : rows_of l (with_closes rows) ≡ [] =
      of_line-append row_line l rows (closes_below LINES) ∙ ap (λ more. more ++ rows_of l (closes_below LINES)) (rows_of-above l rows above on) ∙ closes-none LINES l above in
      numbered-of_line l [] (entries_of_rows table (with_closes rows))
      ∙ ap (numbered_from l 1)
      (entries-of_line table l (with_closes rows)
      ∙ ap (λ marks. entries_of (whats_of marks))
      ((chain_keeps_promises table lawful (with_closes rows) (marks_of_rows table (with_closes rows)) refl).own_rows l ∙ ap (marks_of_rows table) own ∙ no-rows))
    where
      no-rows : marks_of_rows table [] ≡ []
      no-rows = sym (fusion table []) ∙ image_after-none row_line (live_machine table) []

-- entries of which none is beyond n are below it
pub all-below : (entries : List Numbered) (n : ℕ) → ((l : ℕ) → n ≤ l → of_line line_of l entries ≡ []) → AllByRecursion (λ entry. line_of entry < n) entries
all-below [] n none = tt
all-below (entry ∷ entries) n none =
    ⊎_elim
    (λ below. (below, all-below entries n (λ l above. sym (of_line-other line_of l entry entries (ne_eqb _ _ (λ e. omega (arith, e, above, below)))) ∙ none l above)))
    (λ above.
    let one : length (entry ∷ of_line line_of entry.line entries) ≡ 0 = ap length (sym (of_line-here line_of entry.line entry entries (eq-eqb _ _ refl)) ∙ none entry.line above) in
    absurd (omega (arith, one)))
    (cases_lt entry.line n)
