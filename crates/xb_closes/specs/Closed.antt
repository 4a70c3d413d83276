-- The rows of one line, closed once.
use Rattle.std.specs.Prelude.{◌≡◌, ℕ, ◌<◌, List, [], ◌∷◌, ◌++◌, if◌then◌else◌, None}
use Rattle.xb_model.specs.declared.line.TheConstants.{LINES}
use Rattle.xb_model.specs.Rows.{LoopRow, close_row}
use Rattle.xb_model.specs.Records.{is_close, closes, rows_of}
use Rattle.xb_closes.specs.Fed.{fed}

-- the rows up to and with the first close
abbrev pub until_close : List LoopRow → List LoopRow
until_close [] = []
until_close (row ∷ rows) = row ∷ (if is_close row.contact then [] else until_close rows)

-- a close after rows of line l that have none
abbrev pub missing_close : ℕ → List LoopRow → List LoopRow
missing_close l rows = if closes rows then [] else close_row l ∷ []

-- the rows of line l up to their close, or closed after the last of them
abbrev pub closed_once : ℕ → List LoopRow → List LoopRow
closed_once l [] = []
closed_once l (row ∷ rows) = until_close (row ∷ rows) ++ missing_close l (row ∷ rows)

-- of each line its rows are fed, closed once
abbrev pub FeedsEachLineOnce : Type 0
FeedsEachLineOnce = (l : ℕ) (rows : List LoopRow) → l < LINES → rows_of l (fed rows None)
    ≡ closed_once l (rows_of l rows)
