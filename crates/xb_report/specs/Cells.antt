-- The cells of a table, and numbers as they are printed.
use Rattle.std.specs.Prelude.{ℕ, ◌-◌, ◌/◌, ◌%◌, ◌==◌, replicate, length, List, ◌++◌, codes, decimal, if◌then◌else◌, Option, Some, None}
use Rattle.std.specs.List.{flat_map, zip}
use Rattle.xb_heard.specs.declared.run.PlacedRun.{PlacedRun}
use Rattle.xb_heard.specs.declared.figures.Extent.{Extent}
use Rattle.xb_model.specs.Page.{zero_byte}

-- the byte of a blank
abbrev pub blank : ℕ
blank = 32

-- a text at the right of a cell so wide, after blanks; a longer one has a wider cell
abbrev pub at_right : ℕ → List ℕ → List ℕ
at_right width text = replicate (width - length text) blank ++ text

-- what stands before each cell of a line
abbrev pub gap : List ℕ
gap = codes "  "

-- a line of a table: a cell for each text, by the widths of the columns
abbrev pub cells_text : List ℕ → List (List ℕ) → List ℕ
cells_text widths texts = flat_map (λ cell. gap ++ at_right cell.0 cell.1) (zip widths texts)

-- a number in tenths, as 10.0
abbrev pub tenths_text : ℕ → List ℕ
tenths_text tenths = decimal (tenths / 10) ++ codes "." ++ decimal (tenths % 10)

-- the same, or a dash where there is none
abbrev pub tenths_or_dash : Option ℕ → List ℕ
tenths_or_dash None = codes "-"
tenths_or_dash (Some tenths) = tenths_text tenths

-- from the least to the most, as 58-61; one number where they are the same, and a dash where there is none
abbrev pub extent_text : Option Extent → List ℕ
extent_text None = codes "-"
extent_text (Some extent) =
    if extent.least == extent.most then decimal extent.least
    else decimal extent.least ++ codes "-" ++ decimal extent.most

-- a number in three digits, with leading zeros
abbrev pub three_digits : ℕ → List ℕ
three_digits n = replicate (3 - length (decimal n)) zero_byte ++ decimal n

-- where a run begins, as 2.898 s, record 9
abbrev pub place_text : PlacedRun → List ℕ
place_text run =
    decimal (run.start / 1000) ++ codes "." ++ three_digits (run.start % 1000) ++ codes " s, record "
    ++ decimal run.first_record
