-- Rows, and a close of each line after them: what they say is what the rows say.
use Rattle.std.proofs.Common.{◌≡◌, ℕ, zero, suc, ◌+◌, ◌<◌, ◌≤◌, eqb, true, false, cond, Bool, ◌||◌, List, [], ◌∷◌, ◌++◌, map, refl, ap, ◌∙◌, ⊎_elim, eqb-true, append-nil, arith}
use Rattle.std.specs.List.{AllByRecursion}
use Rattle.std.proofs.lemmas.Bool.{cases_Bool, eqb-false}
use Rattle.std.proofs.lemmas.List.{map-append}
use Rattle.xb_model.specs.declared.line.TheConstants.{LINES}
use Rattle.xb_model.specs.Lines.{row_line, lines_below}
use Rattle.xb_model.specs.Records.{Run, is_close, closes, record_up_to_close, rows_of}
use Rattle.xb_model.specs.Rows.{LoopRow, close_row}
use Rattle.xb_model.proofs.Lines.{of_line-append, of_line-here, of_line-other}
use Rattle.xb_model.proofs.LinesBelow.{lines_below-none, lines_below-more}
use Rattle.xb_images.specs.Images.{closed_rows}

-- rows with a close at their end have a close
pub closes-closed : (l : ℕ) (rows : List LoopRow) → closes (rows ++ close_row l ∷ []) ≡ true
closes-closed l [] = refl
closes-closed l (row ∷ rows) = ap (λ closed. is_close row.contact || closed) (closes-closed l rows) ∙ or_true (is_close row.contact)
  where
    or_true : (b : Bool) → (b || true) ≡ true
    or_true true = refl
    or_true false = refl

-- they say the same
pub record-closed : (l : ℕ) (rows : List LoopRow) → record_up_to_close (rows ++ close_row l ∷ []) ≡ record_up_to_close rows
record-closed l [] = refl
record-closed l (row ∷ rows) = ap (from_row (is_close row.contact)) (record-closed l rows)
  where
    -- the record that this row and further runs make
    from_row : Bool → List Run → List Run
    from_row closed runs = cond closed [] (cond (eqb row.ms 0) runs (record { contact = row.contact; ms = row.ms } ∷ runs))

-- they are on their line
pub is_on-closed : (l : ℕ) (rows : List LoopRow) → AllByRecursion (λ row. row.line ≡ l) rows → AllByRecursion (λ row. row.line ≡ l) (rows ++ close_row l ∷ [])
is_on-closed l [] on = (refl, tt)
is_on-closed l (row ∷ rows) on = (on.0, is_on-closed l rows on.1)

-- the closes of the lines below n
abbrev closes_below : ℕ → List LoopRow
closes_below n = map close_row (lines_below n)

-- one line more
pub closes_more : (n : ℕ) → map close_row (lines_below (n + 1)) ≡ map close_row (lines_below n) ++ close_row n ∷ []
closes_more n = ap (map close_row) (lines_below-more n) ∙ map-append close_row (lines_below n) (n ∷ [])

closes_suc : (n : ℕ) → closes_below (suc n) ≡ closes_below n ++ close_row n ∷ []
closes_suc n =
    let on : suc n ≡ n + 1 = omega arith in
    ap closes_below on ∙ closes_more n

line_suc : (l n : ℕ) → rows_of l (closes_below (suc n)) ≡ rows_of l (closes_below n) ++ rows_of l (close_row n ∷ [])
line_suc l n = ap (rows_of l) (closes_suc n) ∙ of_line-append row_line l (closes_below n) (close_row n ∷ [])

-- those of the lines below l have none on it
closes-none : (l n : ℕ) → n ≤ l → rows_of l (closes_below n) ≡ []
closes-none l zero h = ap (λ lines. rows_of l (map close_row lines)) lines_below-none
closes-none l (suc n) h =
    line_suc l n
    ∙ ap (λ ys. rows_of l (closes_below n) ++ ys) (of_line-other row_line l (close_row n) [] (different n l (omega arith)))
    ∙ append-nil _
    ∙ closes-none l n (omega arith)
  where
    different : (n l : ℕ) → n < l → eqb n l ≡ false
    different n l h = ⊎_elim (λ t. absurd (omega (arith, eqb-true n l t))) (λ f. f) (cases_Bool (eqb n l))

-- those of the lines below a greater number have its own alone
closes-own : (l n : ℕ) → l < n → rows_of l (closes_below n) ≡ close_row l ∷ []
closes-own l zero h = absurd (omega arith)
closes-own l (suc n) h =
    line_suc l n
    ∙ ⊎_elim
    (λ t.
    let same : n ≡ l = eqb-true n l t in
    ap (λ ys. ys ++ rows_of l (close_row n ∷ [])) (closes-none l n (omega arith))
    ∙ of_line-here row_line l (close_row n) [] t
    ∙ ap (λ k. close_row k ∷ []) same)
    (λ f.
    let other : n ≡ l → ⊥ = eqb-false n l f in
    ap (λ ys. rows_of l (closes_below n) ++ ys) (of_line-other row_line l (close_row n) [] f)
    ∙ append-nil _
    ∙ closes-own l n (omega (arith, other)))
    (cases_Bool (eqb n l))

-- the rows of a line, and its close
pub rows_of-closed : (l : ℕ) (rows : List LoopRow) → l < LINES → rows_of l (closed_rows rows) ≡ rows_of l rows ++ close_row l ∷ []
rows_of-closed l rows below =
    of_line-append row_line l rows (closes_below LINES) ∙ ap (λ ys. rows_of l rows ++ ys) (closes-own l LINES below)
