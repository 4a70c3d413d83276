-- Rows whose times are read as those of another unit.
use Rattle.std.specs.Prelude.{ℕ, ◌/◌, List, map}
use Rattle.xb_model.specs.Rows.{LoopRow, row_of}

-- a row of one of so many parts of its time
abbrev pub row_part : ℕ → LoopRow → LoopRow
row_part parts row = row_of row.line row.contact (row.ms / parts)

abbrev pub rows_in_parts : ℕ → List LoopRow → List LoopRow
rows_in_parts parts rows = map (row_part parts) rows
