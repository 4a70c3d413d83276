-- A row that is cut into two.
use Rattle.std.proofs.Common.{◌≡◌, ℕ, zero, suc, ◌+◌, ◌==◌, List, [], ◌∷◌, ◌++◌, Bool, true, false, cond, refl, sym, ap, ◌∙◌, eqb-true, ⊎_elim, add_assoc, add-zero, zero-add}
use Rattle.std.proofs.lemmas.Bool.{cases_Bool}
use Rattle.std.proofs.Math.Dec.{eqb-suc-zero}
use Rattle.std.proofs.Math.Nat.{suc-add}
use Rattle.xb_model.specs.declared.row.Contact.{Contact}
use Rattle.xb_model.specs.declared.row.Contact.TheVariants.{Make, Brk, Close}
use Rattle.xb_model.specs.Rows.{LoopRow, row_of}
use Rattle.xb_model.specs.Records.{Run, run_of, same_contact, is_close, rows_of, record_up_to_close, record_of, join, joined, without_first_break}
use Rattle.xb_model.specs.Lines.{row_line}
use Rattle.xb_model.specs.CutRows.{RowsMayBeCut}
use Rattle.xb_model.proofs.Lines.{of_line-append, of_line-here, of_line-other}

-- a contact is the same as itself
same_self : (c : Contact) → same_contact c c ≡ true
same_self Make = refl
same_self Brk = refl
same_self Close = refl

-- two neighbours of one contact join to one run of their sum
pub join_sum : (c : Contact) (m n : ℕ) (R : List Run) → join (run_of c m) (join (run_of c n) R) ≡ join (run_of c (m + n)) R
join_sum c m n [] = rw (same_self c) refl
join_sum c m n (q ∷ R) = by (same_contact c q.contact)
  where
    by : (b : Bool) → join (run_of c m) (cond b (run_of c (n + q.ms) ∷ R) (run_of c n ∷ q ∷ R)) ≡ cond b (run_of c (m + n + q.ms) ∷ R) (run_of c (m + n) ∷ q ∷ R)
    by true = rw (same_self c, add_assoc) refl
    by false = rw (same_self c) refl

-- equal joined records stay equal after a row
after_row : (row : LoopRow) (A B : List LoopRow) → joined (record_up_to_close A) ≡ joined (record_up_to_close B) → joined (record_up_to_close (row ∷ A)) ≡ joined (record_up_to_close (row ∷ B))
after_row row A B same = by (is_close row.contact) (row.ms == 0)
  where
    by : (closed none : Bool) → joined (cond closed [] (cond none (record_up_to_close A) (run_of row.contact row.ms ∷ record_up_to_close A))) ≡ joined (cond closed [] (cond none (record_up_to_close B) (run_of row.contact row.ms ∷ record_up_to_close B)))
    by true none = refl
    by false true = same
    by false false = ap (λ R. join (run_of row.contact row.ms) R) same

-- and after rows of all lines
after_rows : (l : ℕ) (earlier A B : List LoopRow) → joined (record_of l A) ≡ joined (record_of l B) → joined (record_of l (earlier ++ A)) ≡ joined (record_of l (earlier ++ B))
after_rows l [] A B same = same
after_rows l (row ∷ rows) A B same = by (row.line == l) (after_rows l rows A B same)
  where
    by : (on : Bool) → joined (record_of l (rows ++ A)) ≡ joined (record_of l (rows ++ B)) → joined (record_up_to_close (cond on (row ∷ rows_of l (rows ++ A)) (rows_of l (rows ++ A)))) ≡ joined (record_up_to_close (cond on (row ∷ rows_of l (rows ++ B)) (rows_of l (rows ++ B))))
    by true rest = after_row row (rows_of l (rows ++ A)) (rows_of l (rows ++ B)) rest
    by false rest = rest

-- two lengths that are not 0 do not sum to 0
sum_is_not_0 : (m n : ℕ) → (suc m + suc n == 0) ≡ false
sum_is_not_0 m n = rw (suc-add m (suc n)) (eqb-suc-zero (m + suc n))

-- what a row of n ms says before rows that are not closed by it
abbrev up_to : ℕ → Contact → List LoopRow → List Run
up_to n c rows = cond (n == 0) (record_up_to_close rows) (run_of c n ∷ record_up_to_close rows)

-- a row before rows of its line
cut_front : (line m n : ℕ) (c : Contact) (rows : List LoopRow) → joined (record_up_to_close (row_of line c m ∷ row_of line c n ∷ rows)) ≡ joined (record_up_to_close (row_of line c (m + n) ∷ rows))
cut_front line zero n c rows = rw (zero-add n) (by (is_close c))
  where
    by : (closed : Bool) → joined (cond closed [] (cond closed [] (up_to n c rows))) ≡ joined (cond closed [] (up_to n c rows))
    by true = refl
    by false = refl
cut_front line (suc m) zero c rows = rw (add-zero (suc m)) (by (is_close c))
  where
    by : (closed : Bool) → joined (cond closed [] (cond (suc m == 0) (cond closed [] (record_up_to_close rows)) (run_of c (suc m) ∷ cond closed [] (record_up_to_close rows)))) ≡ joined (cond closed [] (up_to (suc m) c rows))
    by true = refl
    by false = refl
cut_front line (suc m) (suc n) c rows = by (is_close c)
  where
    by : (closed : Bool) → joined (cond closed [] (cond (suc m == 0) (cond closed [] (up_to (suc n) c rows)) (run_of c (suc m) ∷ cond closed [] (up_to (suc n) c rows)))) ≡ joined (cond closed [] (up_to (suc m + suc n) c rows))
    by true = refl
    by false = rw (eqb-suc-zero m, eqb-suc-zero n, sum_is_not_0 m n) (join_sum c (suc m) (suc n) (joined (record_up_to_close rows)))

-- the rows of line l where row m of a line stands in front, then rows of other lines, then row n
module _ (l line m n : ℕ) (c : Contact) (between later : List LoopRow) where
  -- rows of which none is on line l leave its rows after them as they are
  skipped : (rows : List LoopRow) → rows_of l between ≡ [] → rows_of l (between ++ rows) ≡ rows_of l rows
  skipped rows none = of_line-append row_line l between rows ∙ ap (λ front. front ++ rows_of l rows) none

  -- on the line itself both rows stand, one after the other, or one row of their sum
  cut_here : (line == l) ≡ true → rows_of l between ≡ []
      → joined (record_of l (row_of line c m ∷ (between ++ row_of line c n ∷ later))) ≡ joined (record_of l (row_of line c (m + n) ∷ (between ++ later)))
  cut_here on none =
      let two : rows_of l (row_of line c m ∷ (between ++ row_of line c n ∷ later)) ≡ row_of line c m ∷ row_of line c n ∷ rows_of l later =
      of_line-here row_line l _ _ on ∙ ap (λ rows. row_of line c m ∷ rows) (skipped _ none ∙ of_line-here row_line l _ _ on) in
      let one : rows_of l (row_of line c (m + n) ∷ (between ++ later)) ≡ row_of line c (m + n) ∷ rows_of l later =
      of_line-here row_line l _ _ on ∙ ap (λ rows. row_of line c (m + n) ∷ rows) (skipped later none) in
      ap (λ rows. joined (record_up_to_close rows)) two
      ∙ cut_front line m n c (rows_of l later)
      ∙ ap (λ rows. joined (record_up_to_close rows)) (sym one)

  -- another line has none of the rows
  cut_elsewhere : (line == l) ≡ false
      → rows_of l (row_of line c m ∷ (between ++ row_of line c n ∷ later)) ≡ rows_of l (row_of line c (m + n) ∷ (between ++ later))
  cut_elsewhere off =
      of_line-other row_line l _ _ off
      ∙ of_line-append row_line l between (row_of line c n ∷ later)
      ∙ ap (λ rows. rows_of l between ++ rows) (of_line-other row_line l _ _ off)
      ∙ sym (of_line-append row_line l between later)
      ∙ sym (of_line-other row_line l _ _ off)

-- the runs of a line are the same where one of its rows is cut into two
pub rows_may_be_cut : RowsMayBeCut
rows_may_be_cut l line m n c earlier between later none =
    ap without_first_break (after_rows l earlier _ _ (⊎_elim
    (λ on. cut_here l line m n c between later on (ap (λ k. rows_of k between) (sym (eqb-true line l on)) ∙ none))
    (λ off. ap (λ rows. joined (record_up_to_close rows)) (cut_elsewhere l line m n c between later off))
    (cases_Bool (line == l))))
