-- The fed rows of one line.
use Rattle.std.proofs.Common.{◌≡◌, ℕ, true, false, not, cond, Bool, ◌&&◌, List, [], ◌∷◌, ◌++◌, refl, ap, ◌∙◌}
use Rattle.xb_model.specs.declared.line.TheConstants.{LINES}
use Rattle.xb_model.specs.Rows.{LoopRow, close_row}
use Rattle.xb_model.specs.Records.{closes, rows_of}
use Rattle.xb_model.proofs.Lines.{of_line-append}
use Rattle.xb_closes.specs.Fed.{kept, has_rows, closings_below}
use Rattle.xb_closes.specs.Closed.{until_close, closed_once, FeedsEachLineOnce}
use Rattle.xb_model.specs.Lines.{row_line}
use Rattle.xb_closes.proofs.RowsUpToClose.{rows_of-kept}
use Rattle.xb_closes.proofs.Closings.{closing, rows_of-closings}

-- the rows of a line up to its close, and its closing
once : (l : ℕ) (rows : List LoopRow) → until_close rows ++ closing l (has_rows rows && not (closes rows)) ≡ closed_once l rows
once l [] = refl
once l (row ∷ rows) = ap (λ ys. until_close (row ∷ rows) ++ ys) (turned (closes (row ∷ rows)))
  where
    turned : (closed : Bool) → closing l (not closed) ≡ cond closed [] (close_row l ∷ [])
    turned true = refl
    turned false = refl

-- a line's fed rows are its rows up to its close, and its closing
pub rows_of-fed : FeedsEachLineOnce
rows_of-fed l rows h =
    of_line-append row_line l (kept rows) (closings_below LINES rows)
    ∙ ap (λ ys. ys ++ rows_of l (closings_below LINES rows)) (rows_of-kept l rows)
    ∙ ap (λ ys. until_close (rows_of l rows) ++ ys) (rows_of-closings l rows LINES h)
    ∙ once l (rows_of l rows)
