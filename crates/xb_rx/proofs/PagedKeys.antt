-- The keyings among keys whose pairs are those of keyings.
use Rattle.std.proofs.Common.{◌≡◌, ◌∙◌, ℕ, suc, ◌<◌, ◌≤◌, List, [], ◌∷◌, ◌++◌, length, map, drop, get_or, Some, sym, ap, ap₂, refl, append_assoc, subst, true}
use Rattle.std.specs.List.{AllByRecursion, flat_map}
use Rattle.xb_model.specs.declared.digit.TheConstants.{DIGITS}
use Rattle.xb_model.specs.declared.key.Key.TheVariants.{Digit, Kp, St}
use Rattle.xb_model.specs.declared.key.Tone.{Tone as Pair}
use Rattle.xb_model.specs.declared.mark.Mark.{Mark}
use Rattle.xb_model.specs.declared.mark.Mark.TheVariants.{Trunk, Tone, Refused}
use Rattle.xb_model.specs.Keyings.{keying, tone}
use Rattle.xb_model.specs.MfPairs.{mf_pair}
use Rattle.xb_sound.specs.HeardKeys.{AreKeyed}
use Rattle.xb_sound.proofs.HeardMarks.{digits_are_keyed}
use Rattle.xb_sound.proofs.KeyWaves.{each_digit}
use Rattle.xb_measured.specs.declared.heard.Heard.{Heard}
use Rattle.xb_ear.specs.HeardKeys.{tones_of}
use Rattle.xb_measured.specs.Receivers.{keys_of_sound, pairs_in}
use Rattle.xb_measured.proofs.Received.{pairs-same}
use Rattle.xb_ear.proofs.WholeSounds.{disturbed_keys_are_heard}
use Rattle.xb_measured.specs.declared.keys.TheConstants.{MOST_DIGITS}
use Rattle.xb_measured.specs.declared.meaning.Meaning.TheVariants as meaning
use Rattle.xb_measured.specs.Meanings.{meaning_of}
use Rattle.xb_measured.specs.Keyings.{begins_keying, digit_by, digit_of, digits_in, ends_keying, is_kp, is_st, keyings, listed_digit, listed_loose, loose_keys, parts_after, Part}
use Rattle.xb_rx.specs.PagedKeys.{AreNumbers, KeyedIsPaged, marks_of_numbers}
use Rattle.xb_rx.specs.Pages.{page_after}
use Rattle.xb_rx.specs.Placed.{numbers_of}
use Rattle.xb_rx.proofs.PlacedKeyings.{numbers-placed}
use Rattle.xb_rx.proofs.KeyingSteps.{AreDigits, completes, completes-part}

-- the pair of each key stands for it
pair-digit : (d : ℕ) → d < DIGITS → meaning_of (mf_pair (Digit d)) ≡ meaning.Key (Digit d)
unfolding meaning_of
pair-digit d below =
    each_digit (λ d. meaning_of (mf_pair (Digit d)) ≡ meaning.Key (Digit d))
    refl refl refl refl refl refl refl refl refl refl d below

pair-kp : meaning_of (mf_pair Kp) ≡ meaning.Key Kp
unfolding meaning_of
pair-kp = refl

pair-st : meaning_of (mf_pair St) ≡ meaning.Key St
unfolding meaning_of
pair-st = refl

abbrev digits-pairs : List ℕ → List Pair
digits-pairs digits = map (λ d. mf_pair (Digit d)) digits

tones-both : (xs ys : List Mark) → tones_of (xs ++ ys) ≡ tones_of xs ++ tones_of ys
tones-both [] ys = refl
tones-both (Trunk t ∷ xs) ys = tones-both xs ys
tones-both (Tone key p ∷ xs) ys = ap (λ ps. p ∷ ps) (tones-both xs ys)
tones-both (Refused reason count ∷ xs) ys = tones-both xs ys

tones-digits : (digits : List ℕ)
    → tones_of (map (λ d. tone (Digit d)) digits ++ tone St ∷ []) ≡ digits-pairs digits ++ mf_pair St ∷ []
tones-digits [] = refl
tones-digits (d ∷ digits) = ap (λ ps. mf_pair (Digit d) ∷ ps) (tones-digits digits)

-- the pairs of a keying, and those after it
tones-first : (trunk : ℕ) (digits : List ℕ) (numbers : List (List ℕ))
    → tones_of (marks_of_numbers trunk (digits ∷ numbers))
    ≡ mf_pair Kp ∷ (digits-pairs digits ++ mf_pair St ∷ tones_of (marks_of_numbers trunk numbers))
tones-first trunk digits numbers =
    tones-both (keying trunk digits) (marks_of_numbers trunk numbers)
    ∙ ap (λ ps. mf_pair Kp ∷ (ps ++ tones_of (marks_of_numbers trunk numbers))) (tones-digits digits)
    ∙ ap (λ ps. mf_pair Kp ∷ ps)
    (append_assoc (digits-pairs digits) (mf_pair St ∷ []) (tones_of (marks_of_numbers trunk numbers)))

-- keys whose pairs begin with those of digits and an ST
record Begins (digits : List ℕ) (pairs : List Pair) (keys : List Heard) : Type 0 where
  first : List Heard
  st : Heard
  later : List Heard
  parts : keys ≡ first ++ st ∷ later
  all : AreDigits first
  count : length first ≡ length digits
  are : digits_in first ≡ digits
  ends : is_st st ≡ true
  rest : pairs_in later ≡ pairs

head-is : (p q : Pair) (ps qs : List Pair) → p ∷ ps ≡ q ∷ qs → p ≡ q
head-is p q ps qs e = ap (λ xs. get_or xs 0 p) e

tail-is : (p q : Pair) (ps qs : List Pair) → p ∷ ps ≡ q ∷ qs → ps ≡ qs
tail-is p q ps qs e = ap (drop 1) e

begins : (digits : List ℕ) (pairs : List Pair) (keys : List Heard) → AllByRecursion (λ d. d < DIGITS) digits
    → pairs_in keys ≡ digits-pairs digits ++ mf_pair St ∷ pairs → Begins digits pairs keys
begins [] pairs [] below e = absurd (cc)
begins [] pairs (st ∷ later) below e = record {
  first = [];
  st = st;
  later = later;
  parts = refl;
  all = tt;
  count = refl;
  are = refl;
  ends = ap (λ (p : Pair). ends_keying (meaning_of p)) (head-is st.sight.pair (mf_pair St) (pairs_in later) pairs e)
      ∙ ap ends_keying pair-st;
  rest = tail-is st.sight.pair (mf_pair St) (pairs_in later) pairs e;
}
begins (d ∷ digits) pairs [] below e = absurd (cc)
begins (d ∷ digits) pairs (key ∷ keys) below e =
    let more = begins digits pairs keys below.1
    (tail-is key.sight.pair (mf_pair (Digit d)) (pairs_in keys) (digits-pairs digits ++ mf_pair St ∷ pairs) e) in
    let is : digit_of key ≡ Some d =
    ap (λ (p : Pair). digit_by (meaning_of p))
    (head-is key.sight.pair (mf_pair (Digit d)) (pairs_in keys) (digits-pairs digits ++ mf_pair St ∷ pairs) e)
    ∙ ap digit_by (pair-digit d below.0) in record {
      first = key ∷ more.first;
      st = more.st;
      later = more.later;
      parts = ap (λ ks. key ∷ ks) more.parts;
      all = ((d, is), more.all);
      count = ap suc more.count;
      are = ap₂ (λ o ds. listed_digit o ++ ds) is more.are;
      ends = more.ends;
      rest = more.rest;
    }

-- keys with the pairs of keyings are these keyings
record AreThese (numbers : List (List ℕ)) (keys : List Heard) : Type 0 where
  keyings_are : keyings keys ≡ numbers
  none_loose : loose_keys keys ≡ []

these : (trunk : ℕ) (numbers : List (List ℕ)) (keys : List Heard) → AreNumbers numbers
    → pairs_in keys ≡ tones_of (marks_of_numbers trunk numbers) → AreThese numbers keys
unfolding keyings parts_after
these trunk [] [] are e = record { keyings_are = refl; none_loose = refl }
these trunk [] (key ∷ keys) are e = absurd (cc)
these trunk (digits ∷ numbers) [] are e = absurd (none-there (e ∙ tones-first trunk digits numbers))
  where
    none-there : {p : Pair} {ps : List Pair} → [] ≡ p ∷ ps → ⊥
    none-there f = cc
these trunk (digits ∷ numbers) (kp ∷ keys) are e =
    let pairs = tones_of (marks_of_numbers trunk numbers) in
    let all = e ∙ tones-first trunk digits numbers in
    let b = begins digits pairs keys are.0.are_digits
    (tail-is kp.sight.pair (mf_pair Kp) (pairs_in keys) (digits-pairs digits ++ mf_pair St ∷ pairs) all) in
    let is : is_kp kp ≡ true = ap (λ (p : Pair). begins_keying (meaning_of p))
    (head-is kp.sight.pair (mf_pair Kp) (pairs_in keys) (digits-pairs digits ++ mf_pair St ∷ pairs) all)
    ∙ ap begins_keying pair-kp in
    let few = subst (λ (n : ℕ). n ≤ MOST_DIGITS) (sym b.count) are.0.few in
    let more = these trunk numbers b.later are.1 b.rest in record {
      keyings_are =
          ap (λ ks. keyings (kp ∷ ks)) b.parts
          ∙ sym (numbers-placed (kp ∷ b.first ++ b.st ∷ b.later))
          ∙ ap numbers_of (completes kp b.first is b.all few b.st b.later b.ends)
          ∙ ap (λ ns. digits_in b.first ∷ ns) (numbers-placed b.later)
          ∙ ap₂ (λ ds ks. ds ∷ ks) b.are more.keyings_are;
      none_loose =
          ap (λ ks. loose_keys (kp ∷ ks)) b.parts
          ∙ ap (λ (ps : List Part). flat_map listed_loose ps) (completes-part kp b.first is b.all few b.st b.later b.ends)
          ∙ more.none_loose;
    }

both-keyed : (xs ys : List Mark) → AreKeyed xs → AreKeyed ys → AreKeyed (xs ++ ys)
both-keyed [] ys x y = y
both-keyed (m ∷ xs) ys x y = (x.0, both-keyed xs ys x.1 y)

numbers-keyed : (trunk : ℕ) (numbers : List (List ℕ)) → AreNumbers numbers → AreKeyed (marks_of_numbers trunk numbers)
numbers-keyed trunk [] are = tt
numbers-keyed trunk (digits ∷ numbers) are =
    both-keyed (keying trunk digits) (marks_of_numbers trunk numbers)
    (tt, ((tt, refl), digits_are_keyed digits are.0.are_digits)) (numbers-keyed trunk numbers are.1)

pub keyed_is_paged : KeyedIsPaged
keyed_is_paged cadence keyed line trunk numbers samples hearable are within =
    let marks = marks_of_numbers keyed numbers in
    let heard = disturbed_keys_are_heard cadence marks samples hearable (numbers-keyed keyed numbers are) within in
    let those = these keyed numbers (keys_of_sound samples) are (pairs-same samples ∙ heard.pairs) in record {
      page = ap (page_after line trunk 0) those.keyings_are;
      none_loose = those.none_loose;
    }
