-- One row more is counted on its line.
use Rattle.std.proofs.Common.{◌≡◌, ◌<◌, ◌+◌, ◌-◌, ◌^◌, ℕ, min, true, false, eqb, List, [], ◌∷◌, ◌++◌, length, set, get_or, sym, ap, ◌∙◌, arith, subst, append-nil, get_or-set_same, get_or-set_other, ⊎_elim, eqb-true}
use Rattle.std.proofs.lemmas.Bool.{cases_Bool, eqb-false}
use Rattle.std.proofs.lemmas.List.{length_push}
use Rattle.std.proofs.lemmas.List.Sums.{sum_by_push}
use Rattle.xb_model.specs.declared.line.TheConstants.{LINES}
use Rattle.xb_model.specs.Lines.{row_line}
use Rattle.xb_model.specs.Records.{rows_of}
use Rattle.xb_model.specs.Rows.{LoopRow}
use Rattle.xb_model.proofs.Lines.{of_line-append, of_line-here, of_line-other}
use Rattle.xb_parts.specs.declared.load.Load.{Load}
use Rattle.xb_parts.specs.Counts.{AreLoadsOf, IsLoadOf, row_bytes}

-- rows of a line, with one more
rows_of-here : (l : ℕ) (rows : List LoopRow) (row : LoopRow) → eqb row.line l ≡ true → rows_of l (rows ++ row ∷ []) ≡ rows_of l rows ++ row ∷ []
rows_of-here l rows row t =
    of_line-append row_line l rows (row ∷ []) ∙ ap (λ (rs : List LoopRow). rows_of l rows ++ rs) (of_line-here row_line l row [] t)

-- with one more of another line
rows_of-other : (l : ℕ) (rows : List LoopRow) (row : LoopRow) → eqb row.line l ≡ false → rows_of l (rows ++ row ∷ []) ≡ rows_of l rows
rows_of-other l rows row f =
    of_line-append row_line l rows (row ∷ []) ∙ ap (λ (rs : List LoopRow). rows_of l rows ++ rs) (of_line-other row_line l row [] f)
    ∙ append-nil (rows_of l rows)

-- a load with one row more
IsLoadOf-more : (rows : List LoopRow) (row : LoopRow) (load load' : Load) → IsLoadOf rows load
    → load'.records ≡ min (load.records + 1) (2 ^ 64 - 1) → load'.bytes ≡ min (load.bytes + row_bytes row) (2 ^ 64 - 1)
    → IsLoadOf (rows ++ row ∷ []) load'
IsLoadOf-more rows row load load' is records bytes = (
  omega (arith, is.0, records, length_push rows row),
  omega (arith, is.1, bytes, sum_by_push row_bytes rows row),
)

pub AreLoadsOf-more : (rows : List LoopRow) (row : LoopRow) (loads loads' : List Load) (load load' : Load)
    → length loads ≡ LINES → row.line < LINES → ((d : Load) → load ≡ get_or loads row.line d) → loads' ≡ set loads row.line load'
    → load'.records ≡ min (load.records + 1) (2 ^ 64 - 1) → load'.bytes ≡ min (load.bytes + row_bytes row) (2 ^ 64 - 1)
    → AreLoadsOf rows loads → AreLoadsOf (rows ++ row ∷ []) loads'
AreLoadsOf-more rows row loads loads' load load' lines below is new records bytes are = λ l d h.
    ⊎_elim
    (λ t.
    let same : row.line ≡ l = eqb-true row.line l t in
    let old : IsLoadOf (rows_of l rows) load
    = subst (λ (x : Load). IsLoadOf (rows_of l rows) x) (ap (λ (k : ℕ). get_or loads k d) (sym same) ∙ sym (is d)) (are l d h) in
    let place : load' ≡ get_or loads' l d
    = sym (ap (λ (xs : List Load). get_or xs l d) new ∙ ap (λ (k : ℕ). get_or (set loads row.line load') k d) (sym same)
    ∙ get_or-set_same loads row.line load' d (omega (arith, lines, below))) in
    subst (λ (x : Load). IsLoadOf (rows_of l (rows ++ row ∷ [])) x) place
    (subst (λ (rs : List LoopRow). IsLoadOf rs load') (sym (rows_of-here l rows row t)) (IsLoadOf-more (rows_of l rows) row load load' old records bytes)))
    (λ f.
    let place : get_or loads l d ≡ get_or loads' l d
    = sym (ap (λ (xs : List Load). get_or xs l d) new ∙ get_or-set_other loads row.line l load' d (λ e. eqb-false row.line l f (sym e))) in
    subst (λ (x : Load). IsLoadOf (rows_of l (rows ++ row ∷ [])) x) place
    (subst (λ (rs : List LoopRow). IsLoadOf rs (get_or loads l d)) (sym (rows_of-other l rows row f)) (are l d h)))
    (cases_Bool (eqb row.line l))
