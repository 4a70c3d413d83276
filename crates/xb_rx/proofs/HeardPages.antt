-- The entries that are heard are those of the page that is written of them.
use Rattle.std.proofs.Common.{◌≡◌, ◌∙◌, ℕ, zero, suc, ◌+◌, ◌<◌, ◌==◌, ◌&&◌, Bool, true, false, cond, not, List, [], ◌∷◌, ◌++◌, length, map, Option, Some, None, is_some, option_map, Ok, ap, append-nil, arith, refl, subst, sym}
use Rattle.std.specs.Prelude.{count_by, if◌then◌else◌}
use Rattle.std.specs.List.{AllByRecursion, flat_map}
use Rattle.std.proofs.lemmas.Simd.{map-map}
use Rattle.std.proofs.lemmas.List.Quantifiers.{position-Some}
use Rattle.std.proofs.lemmas.List.Sums.{sum_by-cons}
use Rattle.xb_model.specs.declared.digit.TheConstants.{DIGITS}
use Rattle.xb_model.specs.declared.key.Key.{Key}
use Rattle.xb_model.specs.declared.key.Key.TheVariants.{Digit, Kp, St}
use Rattle.xb_model.specs.declared.key.Tone.{Tone as Pair}
use Rattle.xb_model.specs.declared.mark.Mark.{Mark}
use Rattle.xb_model.specs.declared.mark.Mark.TheVariants.{Trunk}
use Rattle.xb_model.specs.declared.order.Order.TheVariants as orders
use Rattle.xb_model.specs.declared.reason.Reason.{Reason}
use Rattle.xb_model.specs.Keyings.{keying, marks_of, tone}
use Rattle.xb_model.specs.MfPairs.{digit_of_pair, digit_pair, key_of_pair}
use Rattle.xb_model.specs.Page.{count_entries, entries_text, is_keyed, is_refused, last_refusal, page_text, tape_text, tapes_text, totals_text}
use Rattle.xb_model.specs.Tapes.{entries_of}
use Rattle.xb_model.proofs.Entries.{entries_of-flat_map}
use Rattle.xb_page.specs.Entries.{Entry, entry_with}
use Rattle.xb_page.specs.ReadBack.{AreMarks, entries_of_line, said_by}
use Rattle.xb_page.specs.ReadPages.{entries_of_page}
use Rattle.xb_page.proofs.CheckedEntries.{last_refusal-more}
use Rattle.xb_page.proofs.PagesBack.{pages_are_read_back}
use Rattle.xb_rx.specs.Keyed.{keyed_of, keyed_with, listed_keyed}
use Rattle.xb_measured.specs.declared.heard.Heard.{Heard}
use Rattle.xb_measured.specs.declared.meaning.Meaning.TheVariants as meaning
use Rattle.xb_measured.specs.Meanings.{meaning_by, meaning_of}
use Rattle.xb_measured.specs.declared.keys.TheConstants.{MOST_DIGITS}
use Rattle.xb_rx.specs.Comparing.{HeardIsPaged, as_paged}
use Rattle.xb_measured.specs.Keyings.{before_digits, digit_by, digit_of, digits_to_st, is_kp, is_st, keyings, one_more}
use Rattle.xb_rx.specs.Placed.{Placed, numbers_of, placed}
use Rattle.xb_rx.specs.Pages.{heard_after, page_after}
use Rattle.xb_rx.proofs.PlacedKeyings.{numbers-placed}

some-is : {A : Type 0} {x y : A} → Some x ≡ Some y → x ≡ y
some-is e = cc

none-some : {A : Type 0} {x : A} → None ≡ Some x → ⊥
none-some e = cc

-- the digit of a pair is one
key-digit : (p : Pair) (n : ℕ) → key_of_pair p ≡ Some (Digit n) → n < DIGITS
key-digit p n = by ((p.low == 1100) && (p.high == 1700)) ((p.low == 1500) && (p.high == 1700)) (digit_of_pair p) refl
  where
    by : (kp st : Bool) (o : Option ℕ) → digit_of_pair p ≡ o
        → (if kp then Some Kp else (if st then Some St else option_map Digit o)) ≡ Some (Digit n) → n < DIGITS
    by true st o is e = absurd (cc)
    by false true o is e = absurd (cc)
    by false false None is e = absurd (cc)
    by false false (Some m) is e =
        let same : m ≡ n = cc in
        let found = position-Some (λ d. ((digit_pair d).low == p.low) && ((digit_pair d).high == p.high))
        (0 ∷ 1 ∷ 2 ∷ 3 ∷ 4 ∷ 5 ∷ 6 ∷ 7 ∷ 8 ∷ 9 ∷ []) m 0 is in
        omega (arith, same, found.0)

digit-below : (key : Heard) (d : ℕ) → digit_of key ≡ Some d → d < DIGITS
unfolding meaning_of
digit-below key d = by (key_of_pair key.sight.pair) refl
  where
    other : (a b : Bool) → digit_by (if a then meaning.StPrime else (if b then meaning.Kp2OrStSecond else meaning.StThird)) ≡ None
    other true b = refl
    other false true = refl
    other false false = refl

    by : (o : Option Key) → key_of_pair key.sight.pair ≡ o → digit_by (meaning_by key.sight.pair.low o) ≡ Some d → d < DIGITS
    by None is e = absurd (none-some (sym (other (key.sight.pair.low == 900) (key.sight.pair.low == 1300)) ∙ e))
    by (Some Kp) is e = absurd (none-some e)
    by (Some St) is e = absurd (none-some e)
    by (Some (Digit n)) is e = subst (λ (m : ℕ). m < DIGITS) (some-is e) (key-digit key.sight.pair n is)

abbrev AreBelow : List ℕ → Type 0
AreBelow digits = AllByRecursion (λ d. d < DIGITS) digits

digits-below : (n : ℕ) (keys : List Heard) (digits : List ℕ) → digits_to_st n keys ≡ Some digits → AreBelow digits
unfolding digits_to_st
digits-below n [] digits e = absurd (none-some e)
digits-below zero (key ∷ keys) digits e = by (is_st key) e
  where
    by : (st : Bool) → (if st then Some [] else None) ≡ Some digits → AreBelow digits
    by true e = subst AreBelow (some-is e) tt
    by false e = absurd (none-some e)
digits-below (suc n) (key ∷ keys) digits e =
    by (λ ds later. digits-below n keys ds later) (is_st key) (digit_of key) (digits_to_st n keys) refl refl e
  where
    by : (all : (ds : List ℕ) → digits_to_st n keys ≡ Some ds → AreBelow ds) (st : Bool) (o : Option ℕ)
        (more : Option (List ℕ)) → digit_of key ≡ o → digits_to_st n keys ≡ more
        → (if st then Some [] else before_digits o more) ≡ Some digits → AreBelow digits
    by all true o more is later e = subst AreBelow (some-is e) tt
    by all false None more is later e = absurd (none-some e)
    by all false (Some d) None is later e = absurd (none-some e)
    by all false (Some d) (Some ds) is later e = subst AreBelow (some-is e) (digit-below key d is, all ds later)

abbrev AreNumbers : List (List ℕ) → Type 0
AreNumbers numbers = AllByRecursion AreBelow numbers

keyings-below : (keys : List Heard) → AreNumbers (keyings keys)
unfolding keyings
keyings-below [] = tt
keyings-below (key ∷ keys) = by (keyings-below keys) (is_kp key) (digits_to_st MOST_DIGITS keys) refl
  where
    by : (more : AreNumbers (keyings keys)) (kp : Bool) (o : Option (List ℕ)) → digits_to_st MOST_DIGITS keys ≡ o
        → AreNumbers (one_more (if kp then o else None) (keyings keys))
    by more true None is = more
    by more true (Some digits) is = (digits-below MOST_DIGITS keys digits is, more)
    by more false o is = more

-- the marks of keyings
abbrev tape : List (List ℕ) → List Mark
tape numbers = flat_map (keying 0) numbers

both : (xs ys : List Mark) → AreMarks xs → AreMarks ys → AreMarks (xs ++ ys)
both [] ys x y = y
both (m ∷ xs) ys x y = (x.0, both xs ys x.1 y)

digits-marks : (digits : List ℕ) → AreBelow digits → AreMarks (map (λ d. tone (Digit d)) digits ++ tone St ∷ [])
digits-marks [] below = ((tt, refl), tt)
digits-marks (d ∷ digits) below = ((below.0, refl), digits-marks digits below.1)

tape-marks : (numbers : List (List ℕ)) → AreNumbers numbers → AreMarks (tape numbers)
tape-marks [] below = tt
tape-marks (digits ∷ numbers) below =
    both (keying 0 digits) (tape numbers) (omega arith, ((tt, refl), digits-marks digits below.0))
    (tape-marks numbers below.1)

-- each keying is an entry
tape-entries : (numbers : List (List ℕ)) → entries_of (tape numbers) ≡ map (keying 0) numbers
tape-entries numbers =
    ap entries_of (along numbers)
    ∙ entries_of-flat_map (map (λ digits. orders.Key 0 digits) numbers)
    ∙ map-map marks_of (λ (digits : List ℕ). orders.Key 0 digits) numbers
  where
    along : (xs : List (List ℕ)) → tape xs ≡ flat_map marks_of (map (λ digits. orders.Key 0 digits) xs)
    along [] = refl
    along (x ∷ xs) = ap (λ ms. keying 0 x ++ ms) (along xs)

-- that is not refused
digits-keyed : (digits : List ℕ) → last_refusal (map (λ d. tone (Digit d)) digits ++ tone St ∷ []) ≡ None
digits-keyed [] = refl
digits-keyed (d ∷ []) = last_refusal-more (tone (Digit d)) (tone St) []
digits-keyed (d ∷ e ∷ digits) =
    last_refusal-more (tone (Digit d)) (tone (Digit e)) (map (λ d. tone (Digit d)) digits ++ tone St ∷ [])
    ∙ digits-keyed (e ∷ digits)

keying-keyed : (digits : List ℕ) → last_refusal (keying 0 digits) ≡ None
keying-keyed [] = refl
keying-keyed (d ∷ digits) =
    last_refusal-more (Trunk 0) (tone Kp) (map (λ d. tone (Digit d)) (d ∷ digits) ++ tone St ∷ [])
    ∙ last_refusal-more (tone Kp) (tone (Digit d)) (map (λ d. tone (Digit d)) digits ++ tone St ∷ [])
    ∙ digits-keyed (d ∷ digits)

abbrev keyed_one : List Mark → ℕ
keyed_one marks = cond (is_keyed marks) 1 0

abbrev refused_one : List Mark → ℕ
refused_one marks = cond (is_refused marks) 1 0

keyed-count : (numbers : List (List ℕ)) → count_by is_keyed (map (keying 0) numbers) ≡ length numbers
keyed-count [] = refl
keyed-count (digits ∷ numbers) =
    let one : keyed_one (keying 0 digits) ≡ 1 =
    ap (λ (o : Option (Reason × ℕ)). cond (not (is_some o)) 1 0) (keying-keyed digits) in
    omega (arith, one, keyed-count numbers, sum_by-cons keyed_one (keying 0 digits) (map (keying 0) numbers))

refused-count : (numbers : List (List ℕ)) → count_by is_refused (map (keying 0) numbers) ≡ 0
refused-count [] = refl
refused-count (digits ∷ numbers) =
    let none : refused_one (keying 0 digits) ≡ 0 =
    ap (λ (o : Option (Reason × ℕ)). cond (is_some o) 1 0) (keying-keyed digits) in
    omega (arith, none, refused-count numbers, sum_by-cons refused_one (keying 0 digits) (map (keying 0) numbers))

one-tape : (test : List Mark → Bool) (numbers : List (List ℕ)) (n : ℕ) → count_by test (map (keying 0) numbers) ≡ n
    → count_entries test (tape numbers ∷ []) ≡ n
one-tape test numbers n is =
    sum_by-cons (λ marks. count_by test (entries_of marks)) (tape numbers) []
    ∙ (let k : count_by test (entries_of (tape numbers)) ≡ n = ap (count_by test) (tape-entries numbers) ∙ is in omega (arith, k))

-- the page of one tape is that of the keyings
page-is : (numbers : List (List ℕ)) → page_text (tape numbers ∷ []) ≡ page_after 0 0 0 numbers
unfolding tapes_text
page-is numbers =
    let k : ℕ = count_entries is_keyed (tape numbers ∷ []) in
    let r : ℕ = count_entries is_refused (tape numbers ∷ []) in
    let keyed : k ≡ 0 + length numbers =
    one-tape is_keyed numbers (0 + length numbers) (keyed-count numbers ∙ omega arith) in
    let refused : r ≡ 0 = one-tape is_refused numbers 0 (refused-count numbers) in
    ap (λ t. t ++ totals_text k r) (append-nil (tape_text 0 (tape numbers)) ∙ ap (entries_text 0 1) (tape-entries numbers))
    ∙ ap (λ (n : ℕ). entries_text 0 1 (map (keying 0) numbers) ++ totals_text n r) keyed
    ∙ ap (λ (n : ℕ). entries_text 0 1 (map (keying 0) numbers) ++ totals_text (0 + length numbers) n) refused

page-read : (numbers : List (List ℕ)) → AreNumbers numbers
    → entries_of_page (page_after 0 0 0 numbers) ≡ Ok (entries_of_line 0 1 (map (keying 0) numbers))
page-read numbers below =
    ap entries_of_page (sym (page-is numbers))
    ∙ pages_are_read_back (tape numbers ∷ []) (omega arith) (tape-marks numbers below, tt)
    ∙ ap (λ (entries : List Entry). Ok entries)
    (append-nil (entries_of_line 0 1 (entries_of (tape numbers))) ∙ ap (entries_of_line 0 1) (tape-entries numbers))

-- its entries are keyed
line-keyed : (count : ℕ) (later : List Placed)
    → keyed_of (entries_of_line 0 (count + 1) (map (keying 0) (numbers_of later))) ≡ map as_paged (heard_after 0 0 count later)
line-keyed count [] = refl
line-keyed count (keyed ∷ later) =
    let more = keyed_of (entries_of_line 0 (count + 1 + 1) (map (keying 0) (numbers_of later))) in
    ap (λ (o : Option (Reason × ℕ)). listed_keyed (entry_with 0 (count + 1) (said_by (keying 0 keyed.digits) o)) ++ more)
    (keying-keyed keyed.digits)
    ∙ ap (λ (o : Option (Reason × ℕ)).
    (if is_some o then [] else keyed_with (entry_with 0 (count + 1) (keying 0 keyed.digits)) ∷ []) ++ more)
    (keying-keyed keyed.digits)
    ∙ ap (λ entries. keyed_with (entry_with 0 (count + 1) (keying 0 keyed.digits)) ∷ entries) (line-keyed (count + 1) later)

pub heard_is_paged : HeardIsPaged
heard_is_paged keys = (
  entries_of_line 0 1 (map (keying 0) (keyings keys)),
  page-read (keyings keys) (keyings-below keys),
  sym (line-keyed 0 (placed keys))
      ∙ ap (λ numbers. keyed_of (entries_of_line 0 1 (map (keying 0) numbers))) (numbers-placed keys),
)
