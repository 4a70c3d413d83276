-- Digits in a text.
use Rattle.std.specs.Prelude.{ℕ, ◌-◌, if◌then◌else◌, Option, Some, None}
use Rattle.std.specs.Char.{is_ascii_digit}
use Rattle.xb_model.specs.Page.{zero_byte}

-- the digit that an ASCII character is
abbrev pub digit_of_ascii : ℕ → Option ℕ
digit_of_ascii byte = if is_ascii_digit byte then Some (byte - zero_byte) else None
