-- What digits come to, one by one, is what all of them come to.
use Rattle.std.proofs.Common.{◌≡◌, ℕ, ◌+◌, min, max, List, [], ◌∷◌, ◌++◌, Bool, true, false, Option, Some, None, map, length, refl, ap, sym, ◌∙◌, append-nil, append_assoc, arith, cond, count_by, filter_map, fold, length-append, sum}
use Rattle.std.specs.List.{cons_option, reduce}
use Rattle.std.proofs.lemmas.Grind.{flat_map-append}
use Rattle.std.proofs.lemmas.List.{map-append}
use Rattle.std.proofs.lemmas.List.Elements.{filter_map-append}
use Rattle.std.proofs.lemmas.List.Sums.{fold-append, sum_by-append}
use Rattle.xb_contact.specs.declared.scale.Scale.{Scale}
use Rattle.xb_turns.specs.declared.dial.Dial.{Dial}
use Rattle.xb_turns.specs.declared.dial.Said.{Said}
use Rattle.xb_turns.specs.declared.dial.Said.TheVariants.{Digit, HungUp}
use Rattle.xb_turns.specs.declared.windows.Windows.{Windows}
use Rattle.xb_turns.specs.declared.train.Train.{Train}
use Rattle.xb_turns.specs.declared.verdict.Verdict.{Verdict}
use Rattle.xb_turns.specs.declared.verdict.Verdict.TheVariants.{Good, Pass, Fast, Slow, High, Low}
use Rattle.xb_turns.specs.Dials.{begun_dial, dial_after, said_now}
use Rattle.xb_turns.specs.Digits.{said_list}
use Rattle.xb_turns.specs.DialLaws.{Piece, told_of_pieces}
use Rattle.xb_turns.specs.SumLaws.{SumsAllDigits, digit_of, digits_in, sums_of_pieces}
use Rattle.xb_turns.specs.Sums.{counted, is_fast, is_good, is_high, is_low, is_pass, is_slow, is_spoiled, one_with, or_less, or_more, series_of, share_in, speed_in, summed, sums_after, sums_of, total_with, verdict_in, verdicts_of, verdicts_with, with_digit, with_figure}

-- counts and sums with one more
count-more : {A : Type 0} (test : A → Bool) (items : List A) (item : A)
    → counted (count_by test (items ++ item ∷ [])) ≡ one_with (counted (count_by test items)) (test item)
count-more test items item =
    let all : count_by test (items ++ item ∷ []) ≡ count_by test items + (0 + cond (test item) 1 0) =
    sum_by-append (λ x. cond (test x) 1 0) items (item ∷ []) in
    omega (arith, all)

length-more : {A : Type 0} (items : List A) (item : A)
    → counted (length (items ++ item ∷ [])) ≡ one_with (counted (length items)) true
length-more items item =
    let all : length (items ++ item ∷ []) ≡ length items + 1 = length-append items (item ∷ []) in
    omega (arith, all)

kept : (n : ℕ) → one_with (counted n) false ≡ counted n
kept n = omega arith

total-more : (figures : List ℕ) (figure : ℕ) → summed (sum (figures ++ figure ∷ [])) ≡ total_with (summed (sum figures)) figure
total-more figures figure =
    let all : sum (figures ++ figure ∷ []) ≡ sum figures + (0 + figure) = sum_by-append (λ x. x) figures (figure ∷ []) in
    omega (arith, all)

less-more : (figures : List ℕ) (figure : ℕ) → reduce min (figures ++ figure ∷ []) ≡ or_less (reduce min figures) figure
less-more [] figure = refl
less-more (first ∷ rest) figure = ap Some (fold-append min first rest (figure ∷ []))

most-more : (figures : List ℕ) (figure : ℕ) → reduce max (figures ++ figure ∷ []) ≡ or_more (reduce max figures) figure
most-more [] figure = refl
most-more (first ∷ rest) figure = ap Some (fold-append max first rest (figure ∷ []))

series-more : (figures : List ℕ) (figure : Option ℕ)
    → series_of (figures ++ cons_option figure []) ≡ with_figure (series_of figures) figure
series-more figures None = ap series_of (append-nil figures)
series-more figures (Some figure) =
    rw (length-more figures figure, total-more figures figure, less-more figures figure, most-more figures figure) refl

-- verdicts
all-more : (verdicts : List Verdict) (verdict : Verdict) → verdicts_of (verdicts ++ verdict ∷ []) ≡ record {
  good = one_with (counted (count_by is_good verdicts)) (is_good verdict);
  pass = one_with (counted (count_by is_pass verdicts)) (is_pass verdict);
  fast = one_with (counted (count_by is_fast verdicts)) (is_fast verdict);
  slow = one_with (counted (count_by is_slow verdicts)) (is_slow verdict);
  high = one_with (counted (count_by is_high verdicts)) (is_high verdict);
  low = one_with (counted (count_by is_low verdicts)) (is_low verdict);
}
all-more verdicts verdict =
    rw (
      count-more is_good verdicts verdict,
      count-more is_pass verdicts verdict,
      count-more is_fast verdicts verdict,
      count-more is_slow verdicts verdict,
      count-more is_high verdicts verdict,
      count-more is_low verdicts verdict,
    ) refl

verdict-more : (verdicts : List Verdict) (verdict : Verdict)
    → verdicts_of (verdicts ++ verdict ∷ []) ≡ verdicts_with (verdicts_of verdicts) (Some verdict)
verdict-more verdicts Good = all-more verdicts Good ∙ rw (kept (count_by is_pass verdicts), kept (count_by is_fast verdicts), kept (count_by is_slow verdicts), kept (count_by is_high verdicts), kept (count_by is_low verdicts)) refl
verdict-more verdicts Pass = all-more verdicts Pass ∙ rw (kept (count_by is_good verdicts), kept (count_by is_fast verdicts), kept (count_by is_slow verdicts), kept (count_by is_high verdicts), kept (count_by is_low verdicts)) refl
verdict-more verdicts Fast = all-more verdicts Fast ∙ rw (kept (count_by is_good verdicts), kept (count_by is_pass verdicts), kept (count_by is_slow verdicts), kept (count_by is_high verdicts), kept (count_by is_low verdicts)) refl
verdict-more verdicts Slow = all-more verdicts Slow ∙ rw (kept (count_by is_good verdicts), kept (count_by is_pass verdicts), kept (count_by is_fast verdicts), kept (count_by is_high verdicts), kept (count_by is_low verdicts)) refl
verdict-more verdicts High = all-more verdicts High ∙ rw (kept (count_by is_good verdicts), kept (count_by is_pass verdicts), kept (count_by is_fast verdicts), kept (count_by is_slow verdicts), kept (count_by is_low verdicts)) refl
verdict-more verdicts Low = all-more verdicts Low ∙ rw (kept (count_by is_good verdicts), kept (count_by is_pass verdicts), kept (count_by is_fast verdicts), kept (count_by is_slow verdicts), kept (count_by is_high verdicts)) refl

verdicts-more : (verdicts : List Verdict) (verdict : Option Verdict)
    → verdicts_of (verdicts ++ cons_option verdict []) ≡ verdicts_with (verdicts_of verdicts) verdict
verdicts-more verdicts None = ap verdicts_of (append-nil verdicts)
verdicts-more verdicts (Some verdict) = verdict-more verdicts verdict

-- a digit more
abbrev bounce_in : Train × ℕ → ℕ
bounce_in digit = digit.1

bounce-more : (digits : List (Train × ℕ)) (digit : Train × ℕ)
    → fold max 0 (map bounce_in (digits ++ digit ∷ [])) ≡ max (fold max 0 (map bounce_in digits)) digit.1
bounce-more digits digit =
    ap (fold max 0) (map-append bounce_in digits (digit ∷ [])) ∙ fold-append max 0 (map bounce_in digits) (digit.1 ∷ [])

digit-more : (windows : Windows) (scale : Scale) (digits : List (Train × ℕ)) (digit : Train × ℕ)
    → sums_of windows scale (digits ++ digit ∷ []) ≡ with_digit windows scale (sums_of windows scale digits) digit
digit-more windows scale digits digit =
    let speed : series_of (filter_map (speed_in scale) (digits ++ digit ∷ []))
    ≡ with_figure (series_of (filter_map (speed_in scale) digits)) (speed_in scale digit) =
    ap series_of (filter_map-append (speed_in scale) digits (digit ∷ []))
    ∙ series-more (filter_map (speed_in scale) digits) (speed_in scale digit) in
    let share : series_of (filter_map share_in (digits ++ digit ∷ []))
    ≡ with_figure (series_of (filter_map share_in digits)) (share_in digit) =
    ap series_of (filter_map-append share_in digits (digit ∷ []))
    ∙ series-more (filter_map share_in digits) (share_in digit) in
    let verdicts : verdicts_of (filter_map (verdict_in windows scale) (digits ++ digit ∷ []))
    ≡ verdicts_with (verdicts_of (filter_map (verdict_in windows scale) digits)) (verdict_in windows scale digit) =
    ap verdicts_of (filter_map-append (verdict_in windows scale) digits (digit ∷ []))
    ∙ verdicts-more (filter_map (verdict_in windows scale) digits) (verdict_in windows scale digit) in
    rw (
      length-more digits digit,
      count-more is_spoiled digits digit,
      speed,
      share,
      bounce-more digits digit,
      verdicts,
    ) refl

said-more : (windows : Windows) (scale : Scale) (digits : List (Train × ℕ)) (said : Option Said)
    → sums_after windows scale (sums_of windows scale digits) said
    ≡ sums_of windows scale (digits ++ digits_in (said_list said))
said-more windows scale digits None = sym (ap (sums_of windows scale) (append-nil digits))
said-more windows scale digits (Some (Digit train bounce)) = sym (digit-more windows scale digits (train, bounce))
said-more windows scale digits (Some (HungUp pulses)) = sym (ap (sums_of windows scale) (append-nil digits))

pieces-more : (windows : Windows) (scale : Scale) (pieces : List Piece) (dial : Dial) (digits : List (Train × ℕ))
    → sums_of_pieces windows scale dial (sums_of windows scale digits) pieces
    ≡ sums_of windows scale (digits ++ digits_in (told_of_pieces dial pieces))
pieces-more windows scale [] dial digits = sym (ap (sums_of windows scale) (append-nil digits))
pieces-more windows scale (piece ∷ rest) dial digits =
    let after : Dial = dial_after dial piece.hold piece.bounce in
    let said : Option Said = said_now dial piece.hold piece.bounce in
    let now : List (Train × ℕ) = digits_in (said_list said) in
    let later : List (Train × ℕ) = digits_in (told_of_pieces after rest) in
    ap (λ sums. sums_of_pieces windows scale after sums rest) (said-more windows scale digits said)
    ∙ pieces-more windows scale rest after (digits ++ now)
    ∙ ap (sums_of windows scale)
    (append_assoc digits now later
    ∙ ap (λ more. digits ++ more) (sym (flat_map-append digit_of (said_list said) (told_of_pieces after rest))))

pub sums_all_digits : SumsAllDigits
sums_all_digits windows limits scale first pieces = pieces-more windows scale pieces (begun_dial limits scale first) []
