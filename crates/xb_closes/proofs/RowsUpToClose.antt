-- The rows that are kept: those of each line up to its close.
use Rattle.std.proofs.Common.{◌≡◌, ℕ, eqb, true, false, not, cond, Bool, ◌||◌, List, [], ◌∷◌, ◌++◌, refl, sym, ap, ◌∙◌, ⊎_elim, eqb-true}
use Rattle.std.proofs.lemmas.Bool.{cases_Bool, cond-true, cond-false}
use Rattle.std.proofs.lemmas.List.Elements.{filter-append}
use Rattle.xb_model.specs.Rows.{LoopRow}
use Rattle.xb_model.specs.Records.{is_close, closes, rows_of}
use Rattle.xb_model.proofs.Lines.{of_line-here, of_line-other}
use Rattle.xb_closes.specs.Fed.{without, after, kept}
use Rattle.xb_closes.specs.Closed.{until_close}
use Rattle.xb_model.specs.Lines.{row_line}

without-here : (k : ℕ) (row : LoopRow) (rows : List LoopRow) → eqb row.line k ≡ true → without k (row ∷ rows) ≡ without k rows
without-here k row rows h = cond-false _ _ _ (ap not h)

without-other : (k : ℕ) (row : LoopRow) (rows : List LoopRow) → eqb row.line k ≡ false → without k (row ∷ rows) ≡ row ∷ without k rows
without-other k row rows h = cond-true _ _ _ (ap not h)

-- without its rows, a line has none
rows_of-without_same : (l : ℕ) (rows : List LoopRow) → rows_of l (without l rows) ≡ []
rows_of-without_same l [] = refl
rows_of-without_same l (row ∷ rows) =
    ⊎_elim
    (λ h. ap (rows_of l) (without-here l row rows h) ∙ rows_of-without_same l rows)
    (λ h. ap (rows_of l) (without-other l row rows h) ∙ of_line-other row_line l row (without l rows) h ∙ rows_of-without_same l rows)
    (cases_Bool (eqb row.line l))

-- without the rows of a line, another has all its own
rows_of-without_other : (k l : ℕ) (rows : List LoopRow) → eqb k l ≡ false → rows_of l (without k rows) ≡ rows_of l rows
rows_of-without_other k l [] n = refl
rows_of-without_other k l (row ∷ rows) n =
    ⊎_elim
    (λ h.
    let other : eqb row.line l ≡ false = ap (λ i. eqb i l) (eqb-true row.line k h) ∙ n in
    ap (rows_of l) (without-here k row rows h) ∙ rows_of-without_other k l rows n ∙ sym (of_line-other row_line l row rows other))
    (λ h.
    ap (rows_of l) (without-other k row rows h)
    ∙ ⊎_elim
    (λ t. of_line-here row_line l row (without k rows) t ∙ ap (λ ys. row ∷ ys) (rows_of-without_other k l rows n) ∙ sym (of_line-here row_line l row rows t))
    (λ f. of_line-other row_line l row (without k rows) f ∙ rows_of-without_other k l rows n ∙ sym (of_line-other row_line l row rows f))
    (cases_Bool (eqb row.line l)))
    (cases_Bool (eqb row.line k))

-- the kept rows of a line are its rows up to its close
pub rows_of-kept : (l : ℕ) (rows : List LoopRow) → rows_of l (kept rows) ≡ until_close (rows_of l rows)
rows_of-kept l [] = refl
rows_of-kept l (row ∷ rows) =
    ⊎_elim
    (λ h.
    of_line-here row_line l row (after row (kept rows)) h
    ∙ ap (λ ys. row ∷ ys) (here h (rows_of-kept l rows) (is_close row.contact))
    ∙ sym (ap until_close (of_line-here row_line l row rows h)))
    (λ h.
    of_line-other row_line l row (after row (kept rows)) h
    ∙ there h (rows_of-kept l rows) (is_close row.contact)
    ∙ sym (ap until_close (of_line-other row_line l row rows h)))
    (cases_Bool (eqb row.line l))
  where
    here : eqb row.line l ≡ true → rows_of l (kept rows) ≡ until_close (rows_of l rows) → (b : Bool) → rows_of l (cond b (without row.line (kept rows)) (kept rows)) ≡ cond b [] (until_close (rows_of l rows))
    here h ih true = ap (λ k. rows_of l (without k (kept rows))) (eqb-true row.line l h) ∙ rows_of-without_same l (kept rows)
    here h ih false = ih

    there : eqb row.line l ≡ false → rows_of l (kept rows) ≡ until_close (rows_of l rows) → (b : Bool) → rows_of l (cond b (without row.line (kept rows)) (kept rows)) ≡ until_close (rows_of l rows)
    there h ih true = rows_of-without_other row.line l (kept rows) h ∙ ih
    there h ih false = ih
