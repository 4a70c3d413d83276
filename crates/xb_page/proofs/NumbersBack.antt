-- Numbers that are printed are read.
use Rattle.std.proofs.Common.{◌≡◌, ◌≢◌, ◌∙◌, ℕ, zero, suc, ◌≤◌, ◌<◌, ◌+◌, ◌-◌, ◌%◌, ◌^◌, Bool, true, false, not, ◌&&◌, List, [], ◌∷◌, length, length-append, replicate, Option, Some, None, sym, ap, arith, refl, eqb, eqb-true, eq-eqb, inl, inr, codes}
use Rattle.std.specs.Prelude.{decimal, bytes_eq}
use Rattle.std.specs.Fmt.{digits}
use Rattle.std.specs.List.{AllByRecursion, list_all, range_with_len}
use Rattle.std.proofs.lemmas.Bool.{cases_lt, cond-true, false≢true}
use Rattle.std.proofs.lemmas.Fmt.{decimal_by_steps, length-decimal-le}
use Rattle.std.proofs.lemmas.List.{length-replicate}
use Rattle.std.proofs.lemmas.Slice.Eq.{bytes_eq-Decides}
use Rattle.xb_model.specs.Page.{four_digits}
use Rattle.xb_model.specs.Fields.{field_number}
use Rattle.xb_page.specs.Places.{four_digits_of}
use Rattle.xb_page.proofs.Avoiding.{Avoids, both, weaker}

abbrev pub IsDigitByte : ℕ → Type 0
IsDigitByte x = (48 ≤ x) × (x ≤ 57)

pub decimal-bytes : (n : ℕ) → n < 2 ^ 64 → AllByRecursion IsDigitByte (decimal n)
decimal-bytes n small =
    decimal_by_steps (λ n ds. AllByRecursion IsDigitByte ds)
    (λ n below. ((omega arith, omega arith), tt))
    (λ n ds high ds_are. let digit : n % 10 < 10 = omega arith in
    both IsDigitByte ds ((48 + n % 10) ∷ []) ds_are ((omega arith, omega arith), tt))
    n small

zeros-bytes : (n : ℕ) → AllByRecursion IsDigitByte (replicate n 48)
zeros-bytes zero = tt
zeros-bytes (suc n) = ((omega arith, omega arith), zeros-bytes n)

pub four_digits-bytes : (n : ℕ) → n < 10000 → AllByRecursion IsDigitByte (four_digits n)
four_digits-bytes n below =
    both IsDigitByte (replicate (4 - length (decimal n)) 48) (decimal n) (zeros-bytes (4 - length (decimal n)))
    (decimal-bytes n (omega arith))

pub length-four_digits : (n : ℕ) → n < 10000 → length (four_digits n) ≡ 4
length-four_digits n below =
    let short : length (decimal n) ≤ 4 = length-decimal-le 4 n (omega arith) (omega arith) (omega arith) in
    omega (
      arith,
      length-append (replicate (4 - length (decimal n)) 48) (decimal n),
      length-replicate {A = ℕ} (4 - length (decimal n)) 48,
    )

-- digits are no other byte
pub avoids-space : (xs : List ℕ) → AllByRecursion IsDigitByte xs → Avoids 32 xs
avoids-space xs all = weaker IsDigitByte (λ x. x ≢ 32) (λ x digit e. absurd (omega arith)) xs all

pub avoids-line_feed : (xs : List ℕ) → AllByRecursion IsDigitByte xs → Avoids 10 xs
avoids-line_feed xs all = weaker IsDigitByte (λ x. x ≢ 10) (λ x digit e. absurd (omega arith)) xs all

pub avoids-plus : (xs : List ℕ) → AllByRecursion IsDigitByte xs → Avoids 43 xs
avoids-plus xs all = weaker IsDigitByte (λ x. x ≢ 43) (λ x digit e. absurd (omega arith)) xs all

pub avoids-colon : (xs : List ℕ) → AllByRecursion IsDigitByte xs → Avoids 58 xs
avoids-colon xs all = weaker IsDigitByte (λ x. x ≢ 58) (λ x digit e. absurd (omega arith)) xs all

pub and-both : (b c : Bool) → (b && c) ≡ true → (b ≡ true) × (c ≡ true)
and-both true c e = (refl, e)
and-both false c e = absurd (false≢true e)

pub holds_below : (test : ℕ → Bool) (n a : ℕ) → list_all test (range_with_len a n) ≡ true
    → (k : ℕ) → a ≤ k → k < a + n → test k ≡ true
holds_below test zero a all k low high = absurd (omega arith)
holds_below test (suc n) a all k low high =
    let parts = and-both (test a) (list_all test (range_with_len (a + 1) n)) all in
    elim (cases_lt a k) [
      | inl above ↦ holds_below test n (a + 1) parts.1 k (omega arith) (omega arith)
      | inr here ↦ let same : a ≡ k = omega arith in ap test (sym same) ∙ parts.0
    ]

abbrev is_number : Option ℕ → ℕ → Bool
is_number None n = false
is_number (Some m) n = eqb m n

is_number-true : (o : Option ℕ) (n : ℕ) → is_number o n ≡ true → o ≡ Some n
is_number-true None n e = absurd (false≢true e)
is_number-true (Some m) n e = ap Some (eqb-true m n e)

-- each of the 10,000 is tried
abbrev is_read : ℕ → Bool
is_read n = is_number (field_number 4 (four_digits n)) n && not (bytes_eq (four_digits n) (codes "KEYED"))

all_are_read : list_all is_read (range_with_len 0 10000) ≡ true
unfolding digits
all_are_read = refl

pub field_number-four_digits : (n : ℕ) → n < 10000 → field_number 4 (four_digits n) ≡ Some n
field_number-four_digits n below =
    is_number-true (field_number 4 (four_digits n)) n
    (and-both (is_number (field_number 4 (four_digits n)) n) (not (bytes_eq (four_digits n) (codes "KEYED")))
    (holds_below is_read 10000 0 all_are_read n (omega arith) (omega arith))).0

not-true : (b : Bool) → not b ≡ true → b ≡ false
not-true true e = absurd (false≢true e)
not-true false e = refl

pub four_digits-no_word : (n : ℕ) → n < 10000 → bytes_eq (four_digits n) (codes "KEYED") ≡ false
four_digits-no_word n below =
    not-true (bytes_eq (four_digits n) (codes "KEYED"))
    (and-both (is_number (field_number 4 (four_digits n)) n) (not (bytes_eq (four_digits n) (codes "KEYED")))
    (holds_below is_read 10000 0 all_are_read n (omega arith) (omega arith))).1

-- what stands in four digits is read
pub four_digits-back : (n : ℕ) → n < 10000 → four_digits_of (four_digits n) ≡ Some n
four_digits-back n below =
    cond-true _ _ _ (eq-eqb (length (four_digits n)) 4 (length-four_digits n below)) ∙ field_number-four_digits n below

pub bytes_eq-same : (xs : List ℕ) → bytes_eq xs xs ≡ true
bytes_eq-same xs = (bytes_eq-Decides xs xs).1 refl
