-- How a fault tells a field.
use Rattle.std.specs.Prelude.{ℕ, ◌&&◌, nat_le, nat_lt, if◌then◌else◌, List, map, take}
use Rattle.xb_calls.specs.declared.told_field.TheConstants.{MOST_TOLD_BYTES}

-- a byte as it is told: what is not printable ASCII is a question mark
abbrev pub visible : ℕ → ℕ
visible byte = if nat_le 32 byte && nat_lt byte 127 then byte else 63

-- the beginning of a field, as it is told
abbrev pub told : List ℕ → List ℕ
told field = map visible (take MOST_TOLD_BYTES field)
