-- The numbers and lines that the fields of texts write.
use Rattle.std.specs.Prelude.{ℕ, ◌&&◌, nat_le, if◌then◌else◌, List, length, Option, Some, None}
use Rattle.std.specs.Str.{all_ascii_digits}
use Rattle.std.specs.Str.Parse.{digits_value}
use Rattle.xb_model.specs.declared.field.TheConstants.{LINE_DIGITS}

-- the number that a field of 1 to `most` ASCII digits writes
abbrev pub field_number : ℕ → List ℕ → Option ℕ
field_number most field =
    if nat_le 1 (length field) && nat_le (length field) most && all_ascii_digits field
    then Some (digits_value 10 field)
    else None

-- the line that a field writes
abbrev pub line_of : List ℕ → Option ℕ
line_of field = field_number LINE_DIGITS field
