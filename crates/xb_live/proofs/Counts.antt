-- What is counted, one row after another.
use Rattle.std.proofs.Common.{◌≡◌, ◌≤◌, ◌<◌, ℕ, ◌+◌, eqb, true, false, Bool, cond, not, List, [], ◌∷◌, ◌++◌, length, get_or, set, refl, sym, ap, ◌∙◌, subst, eq-eqb, append-nil, length-append, add-zero, arith, Some, ⊎_elim, eqb-true, vec_len, Vec}
use Rattle.std.specs.List.{All, AllByRecursion}
use Rattle.std.proofs.lemmas.Bool.{cases_lt, eqb-false}
use Rattle.std.proofs.lemmas.List.{get_or_past, nil_from_length}
use Rattle.std.proofs.lemmas.List.Sums.{sum_by-append, sum_by-cons}
use Rattle.xb_model.specs.declared.line.TheConstants.{LINES}
use Rattle.xb_model.specs.declared.mark.Mark.{Mark}
use Rattle.xb_model.specs.declared.on.On.{On}
use Rattle.xb_model.specs.Lines.{row_line, on_line_of, of_line}
use Rattle.xb_model.specs.LineValues.{AreValues}
use Rattle.xb_model.specs.Page.{is_keyed, is_refused}
use Rattle.xb_model.specs.Rows.{LoopRow}
use Rattle.xb_model.proofs.Lines.{of_line-append, of_line-here, of_line-other}
use Rattle.xb_model.proofs.LineValues.{AreValues-same, AreValues-set}
use Rattle.xb_tape.specs.GatheredMarks.{whats_of}
use Rattle.xb_serial.proofs.OneLine.{both_all}
use Rattle.xb_serial.specs.Office.{HasTaken, IsEntryOrNone, marks_of_rows}
use Rattle.xb_live.specs.Entries.{Entry, count_keyed, count_refused, entries_given, entries_of_rows, entry_on, next_number, numbered_after}
use Rattle.xb_live.specs.Counting.{Counted, HasCounted, entry_of, numbered_by}
use Rattle.xb_live.proofs.Completed.{entries-more}
use Rattle.xb_live.proofs.Numbers.{numbered_after-none, numbered_after-one}

-- of zeros none is over 0, and beyond them there is none
pub zeros_are : (numbers : List ℕ) → All (λ n. n ≡ 0) numbers → (l : ℕ) → get_or numbers l 0 ≤ 0
zeros_are numbers zeros l =
    ⊎_elim (λ h. omega (arith, zeros l 0 h)) (λ h. omega (arith, get_or_past numbers l 0 h)) (cases_lt l (length numbers))

-- before the first row
pub counted-none : (office : Counted) → HasTaken office.live [] [] → length office.numbers ≡ LINES → All (λ n. n ≡ 0) office.numbers
    → office.keyed ≡ 0 → office.refused ≡ 0 → HasCounted office []
counted-none office taken lines zeros keyed refused =
    let none : entries_of_rows office.live.table [] ≡ [] = ap entries_given (sym taken.chain) in
    record {
      taken = subst (HasTaken office.live []) taken.chain taken;
      lines = tt;
      numbers = λ l d h. AreValues-same office.numbers 0 lines zeros l d h ∙ sym (ap (λ es. length (of_line on_line_of l es)) none);
      keyed = keyed ∙ sym (ap count_keyed none);
      refused = refused ∙ sym (ap count_refused none);
    }

-- after one row more, which completes these entries
pub counted-more :
    (office after : Counted) (rows : List LoopRow) (row : LoopRow) (more : List Entry)
    → HasCounted office rows → after.live.table ≡ office.live.table
    → HasTaken after.live (rows ++ row ∷ []) (marks_of_rows office.live.table rows ++ after.live.given)
    → entries_of_rows office.live.table (rows ++ row ∷ []) ≡ entries_of_rows office.live.table rows ++ more
    → AreValues after.numbers (λ l. length (of_line on_line_of l (entries_of_rows office.live.table rows ++ more)))
    → after.keyed ≡ office.keyed + count_keyed more → after.refused ≡ office.refused + count_refused more
    → row.line < LINES → HasCounted after (rows ++ row ∷ [])
counted-more office after rows row more counted table taken entries numbers keyed refused below =
    let now : entries_of_rows after.live.table (rows ++ row ∷ []) ≡ entries_of_rows office.live.table rows ++ more
    = ap (λ t. entries_of_rows t (rows ++ row ∷ [])) table ∙ entries in
    let count = λ (test : Entry → Bool). sum_by-append (λ e. cond (test e) 1 0) (entries_of_rows office.live.table rows) more in
    record {
      taken = subst (HasTaken after.live (rows ++ row ∷ [])) taken.chain taken;
      lines = both_all (λ r. row_line r < LINES) rows (row ∷ []) counted.lines (below, tt);
      numbers = λ l d h. numbers l d h ∙ sym (ap (λ es. length (of_line on_line_of l es)) now);
      keyed = keyed ∙ ap (λ n. n + count_keyed more) counted.keyed ∙ sym (count (λ e. is_keyed e.what)) ∙ sym (ap count_keyed now);
      refused = refused ∙ ap (λ n. n + count_refused more) counted.refused ∙ sym (count (λ e. is_refused e.what)) ∙ sym (ap count_refused now);
    }

-- where no entry is completed
pub numbers-same : (numbers : List ℕ) (entries : List Entry)
    → AreValues numbers (λ l. length (of_line on_line_of l entries)) → AreValues numbers (λ l. length (of_line on_line_of l (entries ++ [])))
numbers-same numbers entries are = λ l d h. are l d h ∙ sym (ap (λ es. length (of_line on_line_of l es)) (append-nil entries))

-- where an entry of a line is completed
pub numbers-more : (numbers : List ℕ) (entries : List Entry) (line : ℕ) (marks : List Mark) (number : ℕ)
    → AreValues numbers (λ l. length (of_line on_line_of l entries)) → length numbers ≡ LINES → line < LINES
    → number ≡ length (of_line on_line_of line entries) + 1
    → AreValues (set numbers line number) (λ l. length (of_line on_line_of l (entries ++ entry_on line marks ∷ [])))
numbers-more numbers entries line marks number are lines below next =
    let entry : Entry = entry_on line marks in
    let all = λ (l : ℕ). of_line-append on_line_of l entries (entry ∷ []) in
    AreValues-set numbers (λ l. length (of_line on_line_of l entries)) (λ l. length (of_line on_line_of l (entries ++ entry ∷ []))) line number are lines below
    (next
    ∙ sym (ap length (all line ∙ ap (λ es. of_line on_line_of line entries ++ es) (of_line-here on_line_of line entry [] (eq-eqb line line refl)))
    ∙ length-append (of_line on_line_of line entries) (entry ∷ [])))
    (λ l f. ap length (all l ∙ ap (λ es. of_line on_line_of l entries ++ es) (of_line-other on_line_of l entry [] f) ∙ append-nil _))

-- a vector of length 0 has no items, and no other has none
pub no_items : {X Z : Type 0} (v : Vec X Z) → true ≡ eqb (vec_len v) 0 → v.items ≡ []
no_items v h = nil_from_length v.items (sym v.ok.0 ∙ eqb-true _ _ (sym h))

pub some_items : {X Z : Type 0} (v : Vec X Z) → false ≡ eqb (vec_len v) 0 → v.items ≡ [] → ⊥
some_items v h none = eqb-false _ _ (sym h) (v.ok.0 ∙ ap length none)

-- a list that is not empty begins with something
begins : {X : Type 0} (xs : List X) → (xs ≡ [] → ⊥) → (x : X) × ((rest : List X) × (xs ≡ x ∷ rest))
begins [] some = absurd (some refl)
begins (x ∷ xs) some = (x, (xs, refl))

-- a number more than the line has had is the next
pub next_is : (office : Counted) (rows : List LoopRow) → HasCounted office rows → (line l number : ℕ) → l ≡ line → l < LINES → number ≡ get_or office.numbers l 0
    → number + 1 ≡ next_number (entries_of_rows office.live.table rows) line
next_is office rows counted line l number on below is =
    ap (λ n. n + 1)
    (is ∙ ap (λ k. get_or office.numbers k 0) on ∙ counted.numbers line 0 (subst (λ k. k < LINES) on below))

-- one row more of an office
module _ (office after : Counted) (row : LoopRow) (table : after.live.table ≡ office.live.table)
    (taken : (rows : List LoopRow) (marks : List (On Mark)) → HasTaken office.live rows marks → HasTaken after.live (rows ++ row ∷ []) (marks ++ after.live.given))
    (on : AllByRecursion (λ mark. on_line_of mark ≡ row_line row) after.live.given) (one : IsEntryOrNone after.live.given)
    (entry : after.entry ≡ whats_of after.live.given) (rows : List LoopRow) (counted : HasCounted office rows) where
  abbrev earlier : List Entry
  earlier = entries_of_rows office.live.table rows

  now : HasTaken after.live (rows ++ row ∷ []) (marks_of_rows office.live.table rows ++ after.live.given)
  now = taken rows (marks_of_rows office.live.table rows) counted.taken

  pub row-completes : entries_of_rows office.live.table (rows ++ row ∷ []) ≡ earlier ++ entry_of row.line after.entry
  row-completes =
      entries-more office.live.table rows row after.live.given
      (sym (now.chain ∙ ap (λ t. marks_of_rows t (rows ++ row ∷ [])) table)) on one
      ∙ ap (λ marks. earlier ++ entry_of row.line marks) (sym entry)

  -- it completes no entry
  module _ (none : after.entry ≡ []) where
    pub row-silent : row.line < LINES → after.numbers ≡ office.numbers → after.keyed ≡ office.keyed → after.refused ≡ office.refused → HasCounted after (rows ++ row ∷ [])
    row-silent below numbers keyed refused =
        counted-more office after rows row [] counted table now
        (row-completes ∙ ap (λ marks. earlier ++ entry_of row.line marks) none)
        (subst (λ ns. AreValues ns (λ l. length (of_line on_line_of l (earlier ++ [])))) (sym numbers) (numbers-same office.numbers earlier counted.numbers))
        (keyed ∙ sym (add-zero office.keyed)) (refused ∙ sym (add-zero office.refused)) below

    pub row-unnumbered : numbered_after earlier (entry_of row.line after.entry) ≡ []
    row-unnumbered = ap (λ marks. numbered_after earlier (entry_of row.line marks)) none ∙ numbered_after-none earlier

  -- it completes an entry
  module _ (some : after.entry ≡ [] → ⊥) (number : ℕ) (next : number ≡ next_number earlier row.line) where
    abbrev it : (x : Mark) × ((rest : List Mark) × (after.entry ≡ x ∷ rest))
    it = begins after.entry some

    is : entry_of row.line after.entry ≡ entry_on row.line after.entry ∷ []
    is = ap (entry_of row.line) it.1.1 ∙ ap (λ marks. entry_on row.line marks ∷ []) (sym it.1.1)

    pub row-numbered : numbered_after earlier (entry_of row.line after.entry) ≡ numbered_by row.line after.entry (Some number)
    row-numbered =
        ap (λ marks. numbered_after earlier (entry_of row.line marks)) it.1.1
        ∙ numbered_after-one earlier row.line it.0 it.1.0 number next
        ∙ ap (λ marks. numbered_by row.line marks (Some number)) (sym it.1.1)

    pub row-spoken : (refused : Bool) → is_refused after.entry ≡ refused
        → length office.numbers ≡ LINES → row.line < LINES → after.numbers ≡ set office.numbers row.line number
        → after.keyed ≡ office.keyed + cond refused 0 1 → after.refused ≡ office.refused + cond refused 1 0
        → HasCounted after (rows ++ row ∷ [])
    row-spoken refused refuses lines below numbers keyed_is refused_is =
        counted-more office after rows row (entry_on row.line after.entry ∷ []) counted table now
        (row-completes ∙ ap (λ more. earlier ++ more) is)
        (subst (λ ns. AreValues ns (λ l. length (of_line on_line_of l (earlier ++ entry_on row.line after.entry ∷ [])))) (sym numbers)
        (numbers-more office.numbers earlier row.line after.entry number counted.numbers lines below next))
        (keyed_is ∙ ap (λ n. office.keyed + n) ((counts refused (is_refused after.entry) refuses).0 ∙ sym (sum_by-cons (λ (e : Entry). cond (is_keyed e.what) 1 0) (entry_on row.line after.entry) [])))
        (refused_is ∙ ap (λ n. office.refused + n) ((counts refused (is_refused after.entry) refuses).1 ∙ sym (sum_by-cons (λ (e : Entry). cond (is_refused e.what) 1 0) (entry_on row.line after.entry) []))) below
      where
        counts : (r s : Bool) → s ≡ r → (cond r 0 1 ≡ cond (not s) 1 0 + 0) × (cond r 1 0 ≡ cond s 1 0 + 0)
        counts true s e = rw e (refl, refl)
        counts false s e = rw e (refl, refl)
