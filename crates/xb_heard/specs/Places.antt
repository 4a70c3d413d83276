-- Where a run stands in the recording, in words.
use Rattle.std.specs.Prelude.{◌≡◌, ℕ, ◌+◌, List, [], ◌∷◌, ◌++◌, length, false, ◌==◌, ◌<◌, slice_index_or}
use Rattle.std.specs.List.{AllByRecursion}
use Rattle.xb_model.specs.declared.line.TheConstants.{LINES}
use Rattle.xb_model.specs.Rows.{LoopRow}
use Rattle.xb_model.specs.Records.{Run, closes, rows_of, record_of}
use Rattle.xb_heard.specs.declared.run.PlacedRun.{PlacedRun}

-- how long runs last together
abbrev pub ms_of : List Run → ℕ
ms_of [] = 0
ms_of (run ∷ rest) = run.ms + ms_of rest

-- the record that a run of line l names is a row of the line that lasts, with the contact of the run,
-- before any close of the line; and it begins when all rows of the line before it have passed
pub record IsPlaced (l : ℕ) (rows : List LoopRow) (run : PlacedRun) : Type 0 where
  pub before : List LoopRow
  pub row : LoopRow
  pub after : List LoopRow
  pub stands : rows ≡ before ++ row ∷ after
  pub number : length before + 1 ≡ run.first_record
  pub line : row.line ≡ l
  pub contact : row.contact ≡ run.contact
  pub lasts : (row.ms == 0) ≡ false
  pub not_closed : closes (rows_of l before) ≡ false
  pub start : ms_of (record_of l before) ≡ run.start

-- so it is of each run of a line
abbrev pub ArePlaced : ℕ → List LoopRow → List PlacedRun → Type 0
ArePlaced l rows runs = AllByRecursion (IsPlaced l rows) runs

-- of the runs of all lines, each line's
abbrev pub ArePlacedByLine : List LoopRow → List (List PlacedRun) → Type 0
ArePlacedByLine rows lines =
    (l : ℕ) (none : List PlacedRun) → l < LINES → ArePlaced l rows (slice_index_or lines l none)
