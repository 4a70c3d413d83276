-- Numbers and levels as they are written.
use Rattle.std.specs.Prelude.{ℕ, ◌+◌, ◌-◌, ◌*◌, ◌^◌, ◌==◌, List, [], ◌∷◌, Bool, Option, Some, None, bytes_eq, codes, length, nat_le, nat_lt, option_map, ◌&&◌, if◌then◌else◌}
use Rattle.std.specs.Option.{option_and_then}
use Rattle.xb_contact.specs.declared.level.Level.{Level}
use Rattle.xb_contact.specs.declared.level.Level.TheVariants.{Open, Closed}
use Rattle.xb_text.specs.Pieces.{cut_at}

-- a number with one more digit after it, below 2^64
abbrev pub digit_after : ℕ → ℕ → ℕ → Option ℕ
digit_after base number digit =
    if nat_lt (number * base + digit) (2 ^ 64) then Some (number * base + digit) else None

abbrev pub is_digit : ℕ → Bool
is_digit byte = nat_le 48 byte && nat_le byte 57

abbrev pub number_after : ℕ → ℕ → Option ℕ
number_after number byte = if is_digit byte then digit_after 10 number (byte - 48) else None

-- a number with further digits after it
abbrev pub number_in : ℕ → List ℕ → Option ℕ
number_in number [] = Some number
number_in number (byte ∷ rest) = option_and_then (λ longer. number_in longer rest) (number_after number byte)

-- the number that a text of digits writes
abbrev pub number_of : List ℕ → Option ℕ
number_of [] = None
number_of (byte ∷ rest) = number_in 0 (byte ∷ rest)

-- the digits that a text begins with, and what follows them
abbrev pub leading_digits : List ℕ → List ℕ
leading_digits [] = []
leading_digits (byte ∷ rest) = if is_digit byte then byte ∷ leading_digits rest else []

abbrev pub after_digits : List ℕ → List ℕ
after_digits [] = []
after_digits (byte ∷ rest) = if is_digit byte then after_digits rest else byte ∷ rest

-- a number of at most 1,000 in digits
abbrev pub up_to_thousand : ℕ → Option ℕ
up_to_thousand number = if nat_le number 1000 then Some number else None

abbrev pub number_said : List ℕ → Option ℕ
number_said digits = option_and_then up_to_thousand (number_of digits)

-- a figure in tenths, as 9.5 or 10
abbrev pub tenths_by : List ℕ → Option (List ℕ × List ℕ) → Option ℕ
tenths_by text None = option_map (λ number. number * 10) (number_said text)
tenths_by text (Some parts) =
    if length parts.1 == 1
    then option_and_then (λ whole. option_map (λ tenth. whole * 10 + tenth) (number_said parts.1)) (number_said parts.0)
    else None

abbrev pub tenths_said : List ℕ → Option ℕ
tenths_said text = tenths_by text (cut_at 46 text)

-- the level that a text writes: 0 is low, an open contact, and 1 high, a closed one
abbrev pub level_of : List ℕ → Option Level
level_of text =
    if bytes_eq text (codes "0") then Some Open else (if bytes_eq text (codes "1") then Some Closed else None)
