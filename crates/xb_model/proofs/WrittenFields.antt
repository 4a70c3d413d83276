-- Fields that are written are read.
use Rattle.std.proofs.Common.{◌≡◌, ◌<◌, ◌^◌, ℕ, length, Some, true, refl, arith}
use Rattle.std.specs.Prelude.{decimal}
use Rattle.std.specs.Str.{all_ascii_digits}
use Rattle.std.specs.Str.Parse.{digits_value}
use Rattle.std.proofs.lemmas.Bool.{le-leb}
use Rattle.std.proofs.lemmas.Fmt.{decimal_is_IsNumeral, decimal_nonempty, digits_decimal, length-decimal-le}
use Rattle.std.proofs.lemmas.Str.Parse.{numerals_by_value, tells_all_ascii_digits}
use Rattle.xb_model.specs.Fields.{field_number}

-- the field of a number is read as the number
pub field_number-decimal : (most n : ℕ) → 0 < most → n < 10 ^ most → n < 2 ^ 64
    → field_number most (decimal n) ≡ Some n
field_number-decimal most n some below small =
    let low = le-leb 1 (length (decimal n)) (omega (arith, decimal_nonempty n small)) in
    let high = le-leb (length (decimal n)) most (length-decimal-le most n some below small) in
    let digits : all_ascii_digits (decimal n) ≡ true =
    digits_decimal (numerals_by_value _ tells_all_ascii_digits) n small in
    let value : digits_value 10 (decimal n) ≡ n = (decimal_is_IsNumeral n small).1 in
    rw (low, high, digits, value) refl
