-- The digits that characters dial.
use Rattle.std.specs.Prelude.{ℕ, ◌&&◌, ◌||◌, ◌==◌, nat_le, if◌then◌else◌, Bool, Option, Some, None}
use Rattle.std.specs.Char.{to_ascii_uppercase}
use Rattle.xb_model.specs.Digits.{digit_of_ascii}

-- from one character to another
abbrev pub is_between : ℕ → ℕ → ℕ → Bool
is_between first last character = nat_le first character && nat_le character last

-- the digit beside which a capital stands on a dial (Bell System): ABC at 2, DEF at 3, GHI at 4, JKL at 5,
-- MNO at 6, PRS at 7, TUV at 8, WXY at 9; Q and Z stand at none
abbrev pub digit_of_capital : ℕ → Option ℕ
digit_of_capital c =
    if is_between 65 67 c then Some 2
    else (if is_between 68 70 c then Some 3
    else (if is_between 71 73 c then Some 4
    else (if is_between 74 76 c then Some 5
    else (if is_between 77 79 c then Some 6
    else (if (c == 80) || is_between 82 83 c then Some 7
    else (if is_between 84 86 c then Some 8
    else (if is_between 87 89 c then Some 9 else None)))))))

-- the digit of a letter, a small one as its capital
abbrev pub digit_of_letter : ℕ → Option ℕ
digit_of_letter character = digit_of_capital (to_ascii_uppercase character)

abbrev pub or_letter : ℕ → Option ℕ → Option ℕ
or_letter character None = digit_of_letter character
or_letter character (Some digit) = Some digit

-- the digit that a character dials: a digit itself, a letter the digit beside which it stands
abbrev pub digit_of_character : ℕ → Option ℕ
digit_of_character character = or_letter character (digit_of_ascii character)
