-- What the rows of a line say is what they say closed once.
use Rattle.std.proofs.Common.{◌≡◌, ℕ, eqb, true, false, cond, Bool, ◌||◌, List, [], ◌∷◌, ◌++◌, refl, ap}
use Rattle.std.specs.List.{AllByRecursion}
use Rattle.xb_model.specs.Rows.{LoopRow, close_row}
use Rattle.xb_model.specs.Records.{Run, is_close, closes, record_up_to_close}
use Rattle.xb_closes.specs.Closed.{until_close, missing_close, closed_once}

abbrev IsOn : ℕ → List LoopRow → Type 0
IsOn l rows = AllByRecursion (λ row. row.line ≡ l) rows

-- rows and a close after them
abbrev closed_rows : ℕ → List LoopRow → List LoopRow
closed_rows l rows = until_close rows ++ missing_close l rows

-- what stands there after the first row, which may be a close
abbrev after_first : ℕ → List LoopRow → Bool → List LoopRow
after_first l rows closed = cond closed [] (until_close rows) ++ cond (closed || closes rows) [] (close_row l ∷ [])

closes-closed : (l : ℕ) (rows : List LoopRow) → closes (closed_rows l rows) ≡ true
closes-closed l [] = refl
closes-closed l (row ∷ rows) = at (is_close row.contact) (closes-closed l rows)
  where
    at : (closed : Bool) → closes (closed_rows l rows) ≡ true → (closed || closes (after_first l rows closed)) ≡ true
    at true ih = refl
    at false ih = ih

record-closed : (l : ℕ) (rows : List LoopRow) → record_up_to_close (closed_rows l rows) ≡ record_up_to_close rows
record-closed l [] = refl
record-closed l (row ∷ rows) = at (is_close row.contact) (record-closed l rows)
  where
    -- the record that this row and further runs make
    from_row : Bool → List Run → List Run
    from_row closed runs = cond closed [] (cond (eqb row.ms 0) runs (record { contact = row.contact; ms = row.ms } ∷ runs))

    at : (closed : Bool) → record_up_to_close (closed_rows l rows) ≡ record_up_to_close rows
        → from_row closed (record_up_to_close (after_first l rows closed)) ≡ from_row closed (record_up_to_close rows)
    at true ih = refl
    at false ih = ap (from_row false) ih

is_on-closed : (l : ℕ) (rows : List LoopRow) → IsOn l rows → IsOn l (closed_rows l rows)
is_on-closed l [] on = (refl, tt)
is_on-closed l (row ∷ rows) on = (on.0, at (is_close row.contact) (is_on-closed l rows on.1))
  where
    at : (closed : Bool) → IsOn l (closed_rows l rows) → IsOn l (after_first l rows closed)
    at true ih = tt
    at false ih = ih

-- rows closed once have a close
pub closes-once : (l : ℕ) (row : LoopRow) (rows : List LoopRow) → closes (closed_once l (row ∷ rows)) ≡ true
closes-once l row rows = closes-closed l (row ∷ rows)

-- they say the same
pub record-once : (l : ℕ) (rows : List LoopRow) → record_up_to_close (closed_once l rows) ≡ record_up_to_close rows
record-once l [] = refl
record-once l (row ∷ rows) = record-closed l (row ∷ rows)

-- they are on their line
pub is_on-once : (l : ℕ) (rows : List LoopRow) → AllByRecursion (λ row. row.line ≡ l) rows → AllByRecursion (λ row. row.line ≡ l) (closed_once l rows)
is_on-once l [] on = tt
is_on-once l (row ∷ rows) on = is_on-closed l (row ∷ rows) on
