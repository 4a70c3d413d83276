-- What lines have of rows.
use Rattle.std.specs.Prelude.{◌≡◌, ℕ, ◌-◌, ◌^◌, ◌<◌, ◌≤◌, min, List, length, sum_by, slice_index_or}
use Rattle.xb_model.specs.declared.line.TheConstants.{LINES}
use Rattle.xb_model.specs.Records.{rows_of}
use Rattle.xb_model.specs.Rows.{LoopRow}
use Rattle.xb_rows.specs.WrittenRows.{record_text}
use Rattle.xb_parts.specs.declared.load.Load.{Load}
use Rattle.xb_parts.specs.declared.range.LineRange.{LineRange}
use Rattle.xb_parts.specs.Ranges.{rows_in}
use Rattle.xb_parts.specs.Loads.{Fits}

-- the bytes of a row's record
abbrev pub row_bytes : LoopRow → ℕ
row_bytes row = length (record_text row)

-- a count, or the greatest that fits where it does not
abbrev pub counted : ℕ → ℕ
counted n = min n (2 ^ 64 - 1)

-- the load of rows
abbrev pub IsLoadOf : List LoopRow → Load → Type 0
IsLoadOf rows load =
    (load.records ≡ counted (length rows)) × (load.bytes ≡ counted (sum_by row_bytes rows))

-- each line's load is that of its rows
abbrev pub AreLoadsOf : List LoopRow → List Load → Type 0
AreLoadsOf rows loads =
    (l : ℕ) (d : Load) → l < LINES → IsLoadOf (rows_of l rows) (slice_index_or loads l d)

-- a range whose lines' loads fit has no more rows, and no more bytes of them, than they may be
abbrev pub FittingRangesHaveFew : Type 0
FittingRangesHaveFew =
    (rows : List LoopRow) (loads : List Load) (most : Load) (range : LineRange)
    → AreLoadsOf rows loads → length loads ≡ LINES → range.first ≤ range.end → range.end ≤ LINES
    → most.records < 2 ^ 63 → most.bytes < 2 ^ 63 → Fits loads most range
    → (length (rows_in range rows) ≤ most.records) × (sum_by row_bytes (rows_in range rows) ≤ most.bytes)
