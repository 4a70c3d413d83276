-- Runs with places are the runs of the record, and how they are joined row by row.
use Rattle.std.proofs.Common.{◌≡◌, ◌==◌, ℕ, ◌+◌, List, [], ◌∷◌, Bool, true, false, cond, refl, ap, ◌∙◌, map}
use Rattle.xb_model.specs.declared.row.Contact.{Contact}
use Rattle.xb_model.specs.declared.row.Contact.TheVariants.{Make, Brk, Close}
use Rattle.xb_model.specs.Rows.{LoopRow}
use Rattle.xb_model.specs.Records.{run_of, same_contact, is_close, rows_of, record_up_to_close, record_of, join, joined}
use Rattle.xb_heard.specs.declared.run.PlacedRun.{PlacedRun}
use Rattle.xb_heard.specs.PlacedRuns.{placed, run_in, placed_from, join_placed, joined_placed, placed_runs}

-- a run before others, without places
run_in-join : (r : PlacedRun) (R : List PlacedRun) → map run_in (join_placed r R) ≡ join (run_in r) (map run_in R)
run_in-join r [] = refl
run_in-join r (q ∷ R) = by (same_contact r.contact q.contact)
  where
    by : (b : Bool)
        → map run_in (cond b (placed r.contact (r.ms + q.ms) r.start r.first_record ∷ R) (r ∷ q ∷ R))
        ≡ cond b (run_of r.contact (r.ms + q.ms) ∷ map run_in R) (run_in r ∷ run_in q ∷ map run_in R)
    by true = refl
    by false = refl

-- joined runs, without places
pub run_in-joined : (R : List PlacedRun) → map run_in (joined_placed R) ≡ joined (map run_in R)
run_in-joined [] = refl
run_in-joined (r ∷ R) = run_in-join r (joined_placed R) ∙ ap (join (run_in r)) (run_in-joined R)

-- a row of the line, where the rows after it give the record
row_here : (row : LoopRow) (rows : List LoopRow) (A B : List PlacedRun) (t n : ℕ)
    → map run_in A ≡ record_up_to_close rows → map run_in B ≡ record_up_to_close rows
    → map run_in (cond (is_close row.contact) [] (cond (row.ms == 0) A (placed row.contact row.ms t n ∷ B)))
    ≡ record_up_to_close (row ∷ rows)
row_here row rows A B t n a b = by (is_close row.contact) (row.ms == 0)
  where
    by : (closed none : Bool)
        → map run_in (cond closed [] (cond none A (placed row.contact row.ms t n ∷ B)))
        ≡ cond closed [] (cond none (record_up_to_close rows)
        (run_of row.contact row.ms ∷ record_up_to_close rows))
    by true none = refl
    by false true = a
    by false false = ap (λ R. run_of row.contact row.ms ∷ R) b

-- the runs of rows, without places
pub run_in-placed_from : (l n t : ℕ) (rows : List LoopRow) → map run_in (placed_from l n t rows) ≡ record_of l rows
run_in-placed_from l n t [] = refl
run_in-placed_from l n t (row ∷ rows) =
    by (row.line == l) (run_in-placed_from l (n + 1) t rows) (run_in-placed_from l (n + 1) (t + row.ms) rows)
  where
    by : (on : Bool)
        → map run_in (placed_from l (n + 1) t rows) ≡ record_of l rows
        → map run_in (placed_from l (n + 1) (t + row.ms) rows) ≡ record_of l rows
        → map run_in (cond on (cond (is_close row.contact) [] (cond (row.ms == 0) (placed_from l (n + 1) t rows)
        (placed row.contact row.ms t n ∷ placed_from l (n + 1) (t + row.ms) rows))) (placed_from l (n + 1) t rows))
        ≡ record_up_to_close (cond on (row ∷ rows_of l rows) (rows_of l rows))
    by true a b = row_here row (rows_of l rows) (placed_from l (n + 1) t rows)
        (placed_from l (n + 1) (t + row.ms) rows) t n a b
    by false a b = a

-- the runs of a line are the joined record
pub run_in-placed_runs : (l : ℕ) (rows : List LoopRow) → map run_in (placed_runs l rows) ≡ joined (record_of l rows)
run_in-placed_runs l rows = run_in-joined (placed_from l 1 0 rows) ∙ ap joined (run_in-placed_from l 1 0 rows)

-- contacts that are the same are equal
pub same-equal : (a b : Contact) → same_contact a b ≡ true → a ≡ b
same-equal Make Make e = refl
same-equal Make Brk e = cc
same-equal Make Close e = cc
same-equal Brk Make e = cc
same-equal Brk Brk e = refl
same-equal Brk Close e = cc
same-equal Close Make e = cc
same-equal Close Brk e = cc
same-equal Close Close e = refl
