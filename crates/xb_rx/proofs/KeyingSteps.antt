-- What one key more makes of a keying that goes on.
use Rattle.std.proofs.Common.{◌≡◌, ◌∙◌, ℕ, zero, suc, ◌≤◌, ◌<◌, Bool, true, false, List, [], ◌∷◌, ◌++◌, length, map, take, Option, Some, None, sym, ap, refl, arith, append_assoc, append-nil}
use Rattle.std.specs.Prelude.{if◌then◌else◌}
use Rattle.std.specs.List.{AllByRecursion}
use Rattle.std.proofs.lemmas.Bool.{cond-true, cond-false}
use Rattle.xb_measured.specs.declared.heard.Heard.{Heard}
use Rattle.xb_measured.specs.declared.keys.TheConstants.{MOST_DIGITS}
use Rattle.xb_measured.specs.Keyings.{before_digits, digit_of, digits_in, digits_to_st, is_kp, is_st, keying_at, listed_digit, is_keying, is_loose, part_by, parts_after, parts_of, Part}
use Rattle.xb_rx.specs.Begun.{IsDigit, kept_after}
use Rattle.xb_rx.specs.Placed.{one_placed, placed, placed_of}
use Rattle.xb_rx.proofs.KeyPairs.{digit-no-kp, digit-no-st, st-no-kp}

abbrev pub AreDigits : List Heard → Type 0
AreDigits digits = AllByRecursion IsDigit digits

-- digits and an ST
number : (n : ℕ) (digits : List Heard) (st : Heard) (later : List Heard) → AreDigits digits → length digits ≤ n
    → is_st st ≡ true → digits_to_st n (digits ++ st ∷ later) ≡ Some (digits_in digits)
unfolding digits_to_st
number zero [] st later all few is = cond-true _ _ _ is
number (suc n) [] st later all few is = cond-true _ _ _ is
number zero (d ∷ digits) st later all few is = absurd (omega (arith, few))
number (suc n) (d ∷ digits) st later (one, all) few is =
    cond-false _ _ _ (digit-no-st d one)
    ∙ ap (before_digits (digit_of d)) (number n digits st later all (omega (arith, few)) is)
    ∙ ap (λ (o : Option ℕ). before_digits o (Some (digits_in digits))) one.1
    ∙ ap (λ (o : Option ℕ). Some (listed_digit o ++ digits_in digits)) (sym one.1)

-- digits, and a key that is none ST, and none digit where there is room for one
no-number : (n : ℕ) (digits : List Heard) (key : Heard) (later : List Heard) → AreDigits digits → length digits ≤ n
    → is_st key ≡ false → (length digits < n → digit_of key ≡ None) → digits_to_st n (digits ++ key ∷ later) ≡ None
unfolding digits_to_st
no-number zero [] key later all few none room = cond-false _ _ _ none
no-number (suc n) [] key later all few none room =
    cond-false _ _ _ none ∙ ap (λ (o : Option ℕ). before_digits o (digits_to_st n later)) (room (omega arith))
no-number zero (d ∷ digits) key later all few none room = absurd (omega (arith, few))
no-number (suc n) (d ∷ digits) key later (one, all) few none room =
    cond-false _ _ _ (digit-no-st d one)
    ∙ ap (before_digits (digit_of d))
    (no-number n digits key later all (omega (arith, few)) none (λ below. room (omega (arith, below))))
    ∙ ap (λ (o : Option ℕ). before_digits o None) one.1

-- digits after which nothing comes
no-end : (n : ℕ) (digits : List Heard) → AreDigits digits → digits_to_st n digits ≡ None
unfolding digits_to_st
no-end n [] all = refl
no-end zero (d ∷ digits) (one, all) = cond-false _ _ _ (digit-no-st d one)
no-end (suc n) (d ∷ digits) (one, all) =
    cond-false _ _ _ (digit-no-st d one)
    ∙ ap (before_digits (digit_of d)) (no-end n digits all)
    ∙ ap (λ (o : Option ℕ). before_digits o None) one.1

-- a keying
kp-at : (kp : Heard) (keys : List Heard) → is_kp kp ≡ true → keying_at kp keys ≡ digits_to_st MOST_DIGITS keys
kp-at kp keys is = cond-true _ _ _ is

no-kp-at : (key : Heard) (keys : List Heard) → is_kp key ≡ false → keying_at key keys ≡ None
no-kp-at key keys none = cond-false _ _ _ none

-- keys without a KP begin none keying
none-begun : (key : Heard) (keys : List Heard) → is_kp key ≡ false → placed (key ∷ keys) ≡ placed keys
unfolding placed
none-begun key keys none = ap (λ (o : Option (List ℕ)). one_placed key o (placed keys)) (no-kp-at key keys none)

digits-begin-none : (digits later : List Heard) → AreDigits digits → placed (digits ++ later) ≡ placed later
digits-begin-none [] later all = refl
digits-begin-none (d ∷ digits) later (one, all) =
    none-begun d (digits ++ later) (digit-no-kp d one) ∙ digits-begin-none digits later all

-- and stand in none
abbrev pub all_loose : List Heard → List Part
all_loose keys = map is_loose keys

loose-one : (key : Heard) (keys : List Heard) → is_kp key ≡ false → parts_of (key ∷ keys) ≡ is_loose key ∷ parts_of keys
unfolding parts_after
loose-one key keys none =
    ap (λ (o : Option (List ℕ)). part_by o key keys (λ n. parts_after n keys)) (no-kp-at key keys none)

digits-are-loose : (digits later : List Heard) → AreDigits digits
    → parts_of (digits ++ later) ≡ all_loose digits ++ parts_of later
digits-are-loose [] later all = refl
digits-are-loose (d ∷ digits) later (one, all) =
    loose-one d (digits ++ later) (digit-no-kp d one) ∙ ap (λ ps. is_loose d ∷ ps) (digits-are-loose digits later all)

-- those of a keying are passed over
pass : (keys later : List Heard) → parts_after (length keys) (keys ++ later) ≡ parts_of later
unfolding parts_after
pass [] later = refl
pass (key ∷ keys) later = pass keys later

first-of : (keys later : List Heard) → take (length keys) (keys ++ later) ≡ keys
first-of [] later = refl
first-of (key ∷ keys) later = ap (λ ks. key ∷ ks) (first-of keys later)

count-digits : (digits : List Heard) → AreDigits digits → length (digits_in digits) ≡ length digits
count-digits [] all = refl
count-digits (d ∷ digits) (one, all) =
    ap (λ (o : Option ℕ). length (listed_digit o ++ digits_in digits)) one.1 ∙ ap suc (count-digits digits all)

module _ (kp : Heard) (digits : List Heard) (is : is_kp kp ≡ true) (all : AreDigits digits) (few : length digits ≤ MOST_DIGITS) where
  -- an ST completes a keying
  pub completes : (st : Heard) (later : List Heard) → is_st st ≡ true
      → placed (kp ∷ digits ++ st ∷ later) ≡ placed_of (kp ∷ digits) ∷ placed later
  unfolding placed
  completes st later ends =
      ap (λ (o : Option (List ℕ)). one_placed kp o (placed (digits ++ st ∷ later)))
      (kp-at kp (digits ++ st ∷ later) is ∙ number MOST_DIGITS digits st later all few ends)
      ∙ ap (λ ks. placed_of (kp ∷ digits) ∷ ks)
      (digits-begin-none digits (st ∷ later) all ∙ none-begun st later (st-no-kp st ends))

  pub completes-part : (st : Heard) (later : List Heard) → is_st st ≡ true
      → parts_of (kp ∷ digits ++ st ∷ later) ≡ is_keying (kp ∷ digits ++ st ∷ []) ∷ parts_of later
  unfolding parts_after
  completes-part st later ends =
      let rest = digits ++ st ∷ later in
      let same : rest ≡ (digits ++ st ∷ []) ++ later = sym (append_assoc digits (st ∷ []) later) in
      let size : suc (length (digits_in digits)) ≡ length (digits ++ st ∷ []) =
      ap suc (count-digits digits all) ∙ one-longer digits in
      ap (λ (o : Option (List ℕ)). part_by o kp rest (λ n. parts_after n rest))
      (kp-at kp rest is ∙ number MOST_DIGITS digits st later all few ends)
      ∙ ap (λ (n : ℕ). is_keying (kp ∷ take n rest) ∷ parts_after n rest) size
      ∙ ap (λ ks. is_keying (kp ∷ take (length (digits ++ st ∷ [])) ks) ∷ parts_after (length (digits ++ st ∷ [])) ks) same
      ∙ ap (λ ks. is_keying (kp ∷ ks) ∷ parts_after (length (digits ++ st ∷ [])) ((digits ++ st ∷ []) ++ later))
      (first-of (digits ++ st ∷ []) later)
      ∙ ap (λ ps. is_keying (kp ∷ digits ++ st ∷ []) ∷ ps) (pass (digits ++ st ∷ []) later)
    where
      one-longer : (keys : List Heard) → suc (length keys) ≡ length (keys ++ st ∷ [])
      one-longer [] = refl
      one-longer (key ∷ keys) = ap suc (one-longer keys)

  -- another key breaks it off
  module _ (key : Heard) (none : is_st key ≡ false) (room : length digits < MOST_DIGITS → digit_of key ≡ None) where
    not-at : (later : List Heard) → keying_at kp (digits ++ key ∷ later) ≡ None
    not-at later = kp-at kp (digits ++ key ∷ later) is ∙ no-number MOST_DIGITS digits key later all few none room

    pub breaks : (later : List Heard) → placed (kp ∷ digits ++ key ∷ later) ≡ placed (key ∷ later)
    unfolding placed
    breaks later =
        ap (λ (o : Option (List ℕ)). one_placed kp o (placed (digits ++ key ∷ later))) (not-at later)
        ∙ digits-begin-none digits (key ∷ later) all

    pub breaks-parts : (later : List Heard)
        → parts_of (kp ∷ digits ++ key ∷ later) ≡ is_loose kp ∷ (all_loose digits ++ parts_of (key ∷ later))
    unfolding parts_after
    breaks-parts later =
        let rest = digits ++ key ∷ later in
        ap (λ (o : Option (List ℕ)). part_by o kp rest (λ n. parts_after n rest)) (not-at later)
        ∙ ap (λ ps. is_loose kp ∷ ps) (digits-are-loose digits (key ∷ later) all)

  -- so does the end
  pub end-none : placed (kp ∷ digits) ≡ []
  unfolding placed
  end-none =
      ap (λ (o : Option (List ℕ)). one_placed kp o (placed digits)) (kp-at kp digits is ∙ no-end MOST_DIGITS digits all)
      ∙ ap placed (sym (append-nil digits))
      ∙ digits-begin-none digits [] all

  pub end-parts : parts_of (kp ∷ digits) ≡ is_loose kp ∷ all_loose digits
  unfolding parts_after
  end-parts =
      ap (λ (o : Option (List ℕ)). part_by o kp digits (λ n. parts_after n digits))
      (kp-at kp digits is ∙ no-end MOST_DIGITS digits all)
      ∙ ap (λ ps. is_loose kp ∷ ps)
      (ap parts_of (sym (append-nil digits)) ∙ digits-are-loose digits [] all ∙ append-nil (all_loose digits))

-- a key that breaks off goes on as a KP, or stands in none keying
pub goes-on : (key : Heard) (later : List Heard) → placed (key ∷ later) ≡ placed (kept_after key ++ later)
goes-on key later = by (is_kp key) refl
  where
    by : (b : Bool) → is_kp key ≡ b → placed (key ∷ later) ≡ placed ((if b then key ∷ [] else []) ++ later)
    by true e = refl
    by false e = none-begun key later e

pub goes-parts : (key : Heard) (later : List Heard)
    → parts_of (key ∷ later) ≡ all_loose (if is_kp key then [] else key ∷ []) ++ parts_of (kept_after key ++ later)
goes-parts key later = by (is_kp key) refl
  where
    by : (b : Bool) → is_kp key ≡ b
        → parts_of (key ∷ later)
        ≡ all_loose (if b then [] else key ∷ []) ++ parts_of ((if b then key ∷ [] else []) ++ later)
    by true e = refl
    by false e = loose-one key later e
