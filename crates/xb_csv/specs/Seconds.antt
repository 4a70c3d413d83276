-- Times in seconds.
use Rattle.std.specs.Prelude.{ℕ, ◌+◌, ◌-◌, ◌*◌, ◌/◌, ◌^◌, List, [], ◌++◌, Bool, true, false, Option, Some, None, codes, drop, length, nat_eq, nat_le, nat_lt, option_map, replicate, take, if◌then◌else◌}
use Rattle.std.specs.List.{list_all, starts_with}
use Rattle.std.specs.Option.{option_and_then, unwrap_or}
use Rattle.xb_text.specs.Pieces.{cut_at}
use Rattle.xb_contact.specs.Numbers.{is_digit, number_in, number_of}
use Rattle.xb_csv.specs.declared.exponents.Exponent.{Exponent}
use Rattle.xb_csv.specs.declared.exponents.Exponent.TheVariants as exponents

abbrev pub is_number : List ℕ → Bool
is_number text = list_all is_digit text

-- a number below 2^64
abbrev pub fitting : ℕ → Option ℕ
fitting number = if nat_lt number (2 ^ 64) then Some number else None

-- what stands before the point of a number, and after it
abbrev pub point_parts : List ℕ → List ℕ × List ℕ
point_parts text = unwrap_or (cut_at 46 text) (text, [])

-- the nanoseconds of a fraction: its first nine digits, zeros where it has fewer
abbrev pub nine_digits : List ℕ → List ℕ
nine_digits text = take 9 (text ++ replicate 9 48)

abbrev pub fraction_of : List ℕ → Option ℕ
fraction_of text = if is_number text then number_in 0 (nine_digits text) else None

-- seconds, and what follows their point, in nanoseconds
abbrev pub nanoseconds_by : List ℕ × List ℕ → Option ℕ
nanoseconds_by parts =
    option_and_then
    (λ whole. option_and_then (λ fraction. fitting (whole * 1000000000 + fraction)) (fraction_of parts.1))
    (number_of parts.0)

-- the power of ten that an exponent writes, as `-03` or `+12` or `5`: so many tens down, or up, below 1,000
abbrev pub few_tens : ℕ → Option ℕ
few_tens tens = if nat_lt tens 1000 then Some tens else None

abbrev pub tens_of : List ℕ → Option ℕ
tens_of text = option_and_then few_tens (number_of text)

abbrev pub exponent_of : List ℕ → Option Exponent
exponent_of text =
    if starts_with nat_eq text (codes "-") then option_map exponents.Down (tens_of (drop 1 text))
    else (if starts_with nat_eq text (codes "+") then option_map exponents.Up (tens_of (drop 1 text))
    else option_map exponents.Up (tens_of text))

-- a number so many tens up, and so many down; what is no whole number then is left out
abbrev pub shifted : ℕ → ℕ → ℕ → ℕ
shifted number up down = if nat_le down up then number * 10 ^ (up - down) else number / 10 ^ (down - up)

-- the nanoseconds of seconds with an exponent: their digits, without the point, nine tens up, and as many down as stand
-- after the point
abbrev pub nanoseconds_by_exponent : ℕ → ℕ → Exponent → ℕ
nanoseconds_by_exponent digits places (exponents.Up tens) = shifted digits (9 + tens) places
nanoseconds_by_exponent digits places (exponents.Down tens) = shifted digits 9 (places + tens)

-- the number that two texts of digits write, one after the other
abbrev pub digits_of : List ℕ × List ℕ → Option ℕ
digits_of parts = option_and_then (λ whole. number_in whole parts.1) (number_of parts.0)

abbrev pub scientific : List ℕ × List ℕ → List ℕ → Option ℕ
scientific parts exponent =
    option_and_then
    (λ digits. option_and_then (λ tens. fitting (nanoseconds_by_exponent digits (length parts.1) tens)) (exponent_of exponent))
    (digits_of parts)

-- seconds without a sign, with an exponent after `e` or without one
abbrev pub nanoseconds_in : List ℕ → Option (List ℕ × List ℕ) → Option ℕ
nanoseconds_in text None = nanoseconds_by (point_parts text)
nanoseconds_in text (Some parts) = scientific (point_parts parts.0) parts.1

abbrev pub unsigned_nanoseconds : List ℕ → Option ℕ
unsigned_nanoseconds text = nanoseconds_in text (cut_at 101 text)

-- times below 0 are counted back from a moment 2^62 nanoseconds before it, the others on from it
abbrev pub from_origin : Bool → ℕ → Option ℕ
from_origin is_before time =
    if nat_lt time (2 ^ 62) then Some (if is_before then 2 ^ 62 - time else 2 ^ 62 + time) else None

-- a time in seconds, with a sign where it is below 0
unfoldable pub nanoseconds_of : List ℕ → Option ℕ
nanoseconds_of text =
    if starts_with nat_eq text (codes "-") then option_and_then (from_origin true) (unsigned_nanoseconds (drop 1 text))
    else option_and_then (from_origin false) (unsigned_nanoseconds text)
