-- Ranges of lines.
use Rattle.std.specs.Prelude.{◌≡◌, ℕ, ◌<◌, ◌&&◌, nat_le, nat_lt, List, [], ◌∷◌, map}
use Rattle.std.specs.List.{filter}
use Rattle.xb_model.specs.declared.line.TheConstants.{LINES}
use Rattle.xb_model.specs.Rows.{LoopRow}
use Rattle.xb_parts.specs.Parts.{AreAllParts, Part}
use Rattle.xb_parts.specs.declared.range.LineRange.{LineRange}

-- ranges that take the lines from a on, up to but without b, one after the other, none of them empty
abbrev pub Cover : ℕ → ℕ → List LineRange → Type 0
Cover a b [] = a ≡ b
Cover a b (range ∷ ranges) = (range.first ≡ a) × (a < range.end) × Cover range.end b ranges

-- ranges that take all lines
abbrev pub CoverAll : List LineRange → Type 0
CoverAll ranges = Cover 0 LINES ranges

-- the rows of a range, in their order
abbrev pub rows_in : LineRange → List LoopRow → List LoopRow
rows_in range rows = filter (λ row. nat_le range.first row.line && nat_lt row.line range.end) rows

-- the part of a range
abbrev pub part_with : List LoopRow → LineRange → Part
part_with rows range = record { first = range.first; end = range.end; rows = rows_in range rows }

-- ranges that take all lines make parts that have all rows
abbrev pub RangesMakeParts : Type 0
RangesMakeParts = (rows : List LoopRow) (ranges : List LineRange) → CoverAll ranges
    → AreAllParts rows (map (part_with rows) ranges)
