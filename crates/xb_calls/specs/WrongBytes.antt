-- The first byte of a text line that may not stand there.
use Rattle.std.specs.Prelude.{ℕ, ◌+◌, List, get_or, Bool, Option, option_map}
use Rattle.std.specs.List.{position}
use Rattle.xb_calls.specs.declared.wrong_byte.WrongByte.{WrongByte}

-- the byte of this index, with its place, which counts from 1
abbrev pub wrong_at : List ℕ → ℕ → WrongByte
wrong_at line i = record { place = i + 1; byte = get_or line i 0 }

-- the first byte that is wrong, with its place
abbrev pub first_wrong : (ℕ → Bool) → List ℕ → Option WrongByte
first_wrong is_wrong line = option_map (wrong_at line) (position is_wrong line)
