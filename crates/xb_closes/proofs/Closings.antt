-- The closes of the lines that are open.
use Rattle.std.proofs.Common.{◌≡◌, ℕ, zero, suc, ◌+◌, ◌<◌, ◌≤◌, eqb, true, false, cond, Bool, List, [], ◌∷◌, ◌++◌, map, refl, sym, ap, ◌∙◌, ⊎_elim, eqb-true, append-nil, arith}
use Rattle.std.specs.List.{filter}
use Rattle.std.proofs.lemmas.Bool.{cases_Bool, eqb-false}
use Rattle.std.proofs.lemmas.List.{map-append}
use Rattle.std.proofs.lemmas.List.Elements.{filter-append}
use Rattle.xb_model.specs.Rows.{LoopRow, close_row}
use Rattle.xb_model.specs.Records.{rows_of}
use Rattle.xb_model.proofs.Lines.{of_line-append, of_line-here, of_line-other}
use Rattle.xb_closes.specs.Fed.{is_open, closings_below}
use Rattle.xb_model.specs.Lines.{row_line, lines_below}
use Rattle.xb_model.proofs.LinesBelow.{lines_below-none, lines_below-more}

-- the close of line n, where it is wanted
abbrev pub closing : ℕ → Bool → List LoopRow
closing n wanted = cond wanted (close_row n ∷ []) []

-- below line 0 nothing is closed
pub closings_none : (rows : List LoopRow) → closings_below 0 rows ≡ []
closings_none rows = ap (λ lines. map close_row (filter (is_open rows) lines)) lines_below-none

-- one line more
pub closings_more : (rows : List LoopRow) (n : ℕ) → closings_below (n + 1) rows ≡ closings_below n rows ++ closing n (is_open rows n)
closings_more rows n =
    ap (λ lines. map close_row (filter (is_open rows) lines)) (lines_below-more n)
    ∙ ap (map close_row) (filter-append (is_open rows) (lines_below n) (n ∷ []))
    ∙ map-append close_row (filter (is_open rows) (lines_below n)) (cond (is_open rows n) (n ∷ []) [])
    ∙ ap (λ zs. closings_below n rows ++ zs) (at (is_open rows n))
  where
    at : (wanted : Bool) → map close_row (cond wanted (n ∷ []) []) ≡ closing n wanted
    at true = refl
    at false = refl

closings_suc : (rows : List LoopRow) (n : ℕ) → closings_below (suc n) rows ≡ closings_below n rows ++ closing n (is_open rows n)
closings_suc rows n =
    let on : suc n ≡ n + 1 = omega arith in
    ap (λ k. closings_below k rows) on ∙ closings_more rows n

closing_here : (l n : ℕ) (wanted : Bool) → eqb n l ≡ true → rows_of l (closing n wanted) ≡ closing l wanted
closing_here l n true h = of_line-here row_line l (close_row n) [] h ∙ ap (λ k. close_row k ∷ []) (eqb-true n l h)
closing_here l n false h = refl

closing_other : (l n : ℕ) (wanted : Bool) → eqb n l ≡ false → rows_of l (closing n wanted) ≡ []
closing_other l n true h = of_line-other row_line l (close_row n) [] h
closing_other l n false h = refl

-- the closes of the lines below l have none on it
rows_of-closings_none : (l : ℕ) (rows : List LoopRow) (n : ℕ) → n ≤ l → rows_of l (closings_below n rows) ≡ []
rows_of-closings_none l rows zero h = ap (rows_of l) (closings_none rows)
rows_of-closings_none l rows (suc n) h =
    let below : n ≤ l = omega arith in
    let other : eqb n l ≡ false = different n l (omega arith) in
    ap (rows_of l) (closings_suc rows n)
    ∙ of_line-append row_line l (closings_below n rows) (closing n (is_open rows n))
    ∙ ap (λ ys. rows_of l (closings_below n rows) ++ ys) (closing_other l n (is_open rows n) other)
    ∙ append-nil _
    ∙ rows_of-closings_none l rows n below
  where
    different : (n l : ℕ) → n < l → eqb n l ≡ false
    different n l h = ⊎_elim (λ t. absurd (omega (arith, eqb-true n l t))) (λ f. f) (cases_Bool (eqb n l))

-- those of the lines below a greater number have its own alone
pub rows_of-closings : (l : ℕ) (rows : List LoopRow) (n : ℕ) → l < n → rows_of l (closings_below n rows) ≡ closing l (is_open rows l)
rows_of-closings l rows zero h = absurd (omega arith)
rows_of-closings l rows (suc n) h =
    ap (rows_of l) (closings_suc rows n)
    ∙ of_line-append row_line l (closings_below n rows) (closing n (is_open rows n))
    ∙ ⊎_elim
    (λ t.
    let same : n ≡ l = eqb-true n l t in
    ap (λ ys. ys ++ rows_of l (closing n (is_open rows n))) (rows_of-closings_none l rows n (omega arith))
    ∙ closing_here l n (is_open rows n) t
    ∙ ap (λ k. closing l (is_open rows k)) same)
    (λ f.
    let other : n ≡ l → ⊥ = eqb-false n l f in
    ap (λ ys. rows_of l (closings_below n rows) ++ ys) (closing_other l n (is_open rows n) f)
    ∙ append-nil _
    ∙ rows_of-closings l rows n (omega (arith, other)))
    (cases_Bool (eqb n l))
