-- The number that a text begins with, digit by digit.
use Rattle.std.proofs.Common.{◌≡◌, ◌≤◌, ◌<◌, ◌+◌, ◌-◌, ◌*◌, ◌^◌, ◌++◌, ℕ, List, length, take, drop, get_or, Bool, true, false, cond, Some, None, refl, sym, ap, ◌∙◌, lit<, arith}
use Rattle.std.proofs.Math.Nat.{pow-le-pow_right}
use Rattle.std.proofs.lemmas.Bool.{le-leb}
use Rattle.std.proofs.lemmas.Int.Digits.{digits_more, digits_value_more}
use Rattle.std.proofs.lemmas.List.{length-take-le, take-append-drop, take_rest}
use Rattle.std.proofs.lemmas.Str.{digit_value_digit}
use Rattle.std.proofs.lemmas.Str.Parse.{IsNumeralModel, digits_value_short, numerals_by_value, tells_all_ascii_digits}
use Rattle.std.specs.Char.{digit_value, is_ascii_digit}
use Rattle.std.specs.Str.{all_ascii_digits}
use Rattle.std.specs.Str.Parse.{digits_value}
use Rattle.xb_model.specs.Digits.{digit_of_ascii}
use Rattle.xb_rows.specs.Plain.{BeginsWithNumber}
use Rattle.xb_model.specs.Fields.{field_number}
use Rattle.xb_rows.proofs.PlainRecords.{digit_is}

-- the first bytes of a text are digits
abbrev AreDigits : List ℕ → ℕ → Type 0
AreDigits text n = all_ascii_digits (take n text) ≡ true

-- the number of so many digits has no more
pub number_below : (text : List ℕ) (n : ℕ) → n ≤ length text → AreDigits text n
    → digits_value 10 (take n text) < 10 ^ n
number_below text n within digits =
    digits_value_short (numerals_by_value _ tells_all_ascii_digits) (take n text) n digits
    (omega (arith, length-take-le n text within))

-- and has its place among those of more digits
pub number_below_more : (text : List ℕ) (n most : ℕ) → n ≤ most → n ≤ length text → AreDigits text n
    → digits_value 10 (take n text) < 10 ^ most
number_below_more text n most few within digits =
    omega (arith, number_below text n within digits, pow-le-pow_right {n = 10} (lit< tt) {i = n} {j = most} few)

-- where one more of eight digits is to come, there are seven at most
pub number_of_seven : (text : List ℕ) (n : ℕ) → n < 8 → n ≤ length text → AreDigits text n
    → digits_value 10 (take n text) < 10000000
number_of_seven text n few within digits = number_below_more text n 7 (omega arith) within digits

some-is : (a b : ℕ) → Some a ≡ Some b → a ≡ b
some-is a b e = cc e

-- a digit more
pub one_more : (text : List ℕ) (n d : ℕ) → n < length text → AreDigits text n
    → digit_of_ascii (get_or text n 0) ≡ Some d
    → AreDigits text (n + 1) × (digits_value 10 (take (n + 1) text) ≡ digits_value 10 (take n text) * 10 + d)
one_more text n d inside digits e = by (is_ascii_digit (get_or text n 0)) refl e
  where
    own : IsNumeralModel (λ ds. all_ascii_digits ds ≡ true) (digits_value 10)
    own = numerals_by_value _ tells_all_ascii_digits

    by : (yes : Bool) → is_ascii_digit (get_or text n 0) ≡ yes
        → cond yes (Some (get_or text n 0 - 48)) None ≡ Some d
        → AreDigits text (n + 1) × (digits_value 10 (take (n + 1) text) ≡ digits_value 10 (take n text) * 10 + d)
    by false is h = cc h
    by true is h =
        let range = digit_is (get_or text n 0) is in
        let value = digit_value_digit (get_or text n 0) range in
        let more = digits_more 10 text n inside (own.to (take n text) digits) (omega (arith, value, range)) in
        let d_is : digit_value (get_or text n 0) ≡ d = omega (arith, value, some-is (get_or text n 0 - 48) d h) in
        (own.from (take (n + 1) text) more, digits_value_more 10 text n inside ∙ ap (λ x. digits_value 10 (take n text) * 10 + x) d_is)

-- the digits that were read are the number
pub begins_with : (most n : ℕ) (text : List ℕ) → 1 ≤ n → n ≤ most → n ≤ length text → AreDigits text n
    → BeginsWithNumber most text (digits_value 10 (take n text)) (take (length text - n) (drop n text))
begins_with most n text some few within digits = (take n text, sym whole, number)
  where
    whole : take n text ++ take (length text - n) (drop n text) ≡ text
    whole = ap (λ rest. take n text ++ rest) (take_rest text n) ∙ take-append-drop n text

    number : field_number most (take n text) ≡ Some (digits_value 10 (take n text))
    number = rw (length-take-le n text within, le-leb 1 n some, le-leb n most few, digits) refl
