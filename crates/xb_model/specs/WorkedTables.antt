-- The tables of the profile, key by key and digit by digit.
use Rattle.std.specs.Prelude.{◌≡◌, ℕ, ◌<◌, List, [], ◌∷◌, Bool, true, false, ◌==◌, is_some, count_by, Some, None}
use Rattle.xb_model.specs.declared.key.Key.TheVariants.{Digit, Kp, St}
use Rattle.xb_model.specs.declared.plan.Plan.{Plan}
use Rattle.xb_model.specs.declared.plan.Plan.TheVariants.{Seven, Ten}
use Rattle.xb_model.specs.declared.signal.TheConstants.{MOST_PULSES}
use Rattle.xb_model.specs.TwoOfFive.{five, at_rest, operated, weights, digit_of_pattern, pattern_of_count}
use Rattle.xb_model.specs.MfPairs.{pair, mf_pair}
use Rattle.xb_model.specs.Plans.{plan_len}
use Rattle.xb_model.specs.Numbers.{shortest_complete}

-- the elements of so many pulses are those of the weights a and b, and stand for digit d
abbrev pub Elements : ℕ → ℕ → ℕ → ℕ → Type 0
Elements n a b d =
    (operated weights (pattern_of_count n false) ≡ a ∷ b ∷ [])
    × (digit_of_pattern (pattern_of_count n false) ≡ Some d)

-- two elements for each digit, and none for any other count or a bad train
pub record TwoOfFiveTable : Type 0 where
  pub digit_1 : Elements 1 0 1 1
  pub digit_2 : Elements 2 0 2 2
  pub digit_3 : Elements 3 1 2 3
  pub digit_4 : Elements 4 0 4 4
  pub digit_5 : Elements 5 1 4 5
  pub digit_6 : Elements 6 2 4 6
  pub digit_7 : Elements 7 0 7 7
  pub digit_8 : Elements 8 1 7 8
  pub digit_9 : Elements 9 2 7 9
  pub digit_0 : Elements 10 4 7 0
  pub no_pulse : pattern_of_count 0 false ≡ at_rest
  pub many_pulses : (n : ℕ) → MOST_PULSES < n → pattern_of_count n false ≡ at_rest
  pub bad_train : (n : ℕ) → pattern_of_count n true ≡ at_rest

-- a pattern is a digit exactly where two of its five elements operate
abbrev pub TwoMakeADigit : Type 0
TwoMakeADigit =
    (zero one two four seven : Bool) →
    is_some (digit_of_pattern (five zero one two four seven))
    ≡ (count_by (λ bit. bit) (five zero one two four seven) == 2)

-- the pair of each key, in Hz
pub record MfTable : Type 0 where
  pub digit_1 : mf_pair (Digit 1) ≡ pair 700 900
  pub digit_2 : mf_pair (Digit 2) ≡ pair 700 1100
  pub digit_3 : mf_pair (Digit 3) ≡ pair 900 1100
  pub digit_4 : mf_pair (Digit 4) ≡ pair 700 1300
  pub digit_5 : mf_pair (Digit 5) ≡ pair 900 1300
  pub digit_6 : mf_pair (Digit 6) ≡ pair 1100 1300
  pub digit_7 : mf_pair (Digit 7) ≡ pair 700 1500
  pub digit_8 : mf_pair (Digit 8) ≡ pair 900 1500
  pub digit_9 : mf_pair (Digit 9) ≡ pair 1100 1500
  pub digit_0 : mf_pair (Digit 0) ≡ pair 1300 1500
  pub kp : mf_pair Kp ≡ pair 1100 1700
  pub st : mf_pair St ≡ pair 1500 1700

-- by the plan these good digits of one attempt complete this number
abbrev pub Completes : Plan → List ℕ → List ℕ → Type 0
Completes plan digits number = shortest_complete plan digits ≡ Some number

-- they complete none
abbrev pub IsIncomplete : Plan → List ℕ → Type 0
IsIncomplete plan digits = shortest_complete plan digits ≡ None

-- the numbers that plan Seven completes
pub record NumbersOfSeven : Type 0 where
  pub operator : Completes Seven (0 ∷ []) (0 ∷ [])
  pub service_code : Completes Seven (4 ∷ 1 ∷ 1 ∷ []) (4 ∷ 1 ∷ 1 ∷ [])
  pub teen_code : Completes Seven (4 ∷ 1 ∷ 2 ∷ 5 ∷ 5 ∷ 5 ∷ 1 ∷ []) (4 ∷ 1 ∷ 2 ∷ 5 ∷ 5 ∷ 5 ∷ 1 ∷ [])
  pub seven_of_ten : Completes Seven (2 ∷ 0 ∷ 1 ∷ 5 ∷ 5 ∷ 5 ∷ 1 ∷ 2 ∷ 3 ∷ 4 ∷ [])
      (2 ∷ 0 ∷ 1 ∷ 5 ∷ 5 ∷ 5 ∷ 1 ∷ [])
  pub begins_with_1 : Completes Seven (1 ∷ 1 ∷ 1 ∷ 2 ∷ 3 ∷ 4 ∷ 5 ∷ []) (1 ∷ 1 ∷ 1 ∷ 2 ∷ 3 ∷ 4 ∷ 5 ∷ [])
  pub six_digits : IsIncomplete Seven (2 ∷ 3 ∷ 4 ∷ 5 ∷ 6 ∷ 7 ∷ [])
  pub no_digit : plan_len Seven [] ≡ None
  pub one_digit : plan_len Seven (4 ∷ []) ≡ None
  pub two_digits : plan_len Seven (4 ∷ 1 ∷ []) ≡ None

-- the numbers that plan Ten completes
pub record NumbersOfTen : Type 0 where
  pub operator : Completes Ten (0 ∷ []) (0 ∷ [])
  pub service_code : Completes Ten (4 ∷ 1 ∷ 1 ∷ []) (4 ∷ 1 ∷ 1 ∷ [])
  pub teen_code : IsIncomplete Ten (4 ∷ 1 ∷ 2 ∷ 5 ∷ 5 ∷ 5 ∷ 1 ∷ [])
  pub all_ten : Completes Ten (2 ∷ 0 ∷ 1 ∷ 5 ∷ 5 ∷ 5 ∷ 1 ∷ 2 ∷ 3 ∷ 4 ∷ [])
      (2 ∷ 0 ∷ 1 ∷ 5 ∷ 5 ∷ 5 ∷ 1 ∷ 2 ∷ 3 ∷ 4 ∷ [])
  pub begins_with_1 : Completes Ten (1 ∷ 1 ∷ 1 ∷ 2 ∷ 3 ∷ 4 ∷ 5 ∷ []) (1 ∷ 1 ∷ 1 ∷ 2 ∷ 3 ∷ 4 ∷ 5 ∷ [])
  pub office_code : Completes Ten (2 ∷ 3 ∷ 4 ∷ 5 ∷ 6 ∷ 7 ∷ 8 ∷ []) (2 ∷ 3 ∷ 4 ∷ 5 ∷ 6 ∷ 7 ∷ 8 ∷ [])
  pub six_digits : IsIncomplete Ten (2 ∷ 3 ∷ 4 ∷ 5 ∷ 6 ∷ 7 ∷ [])
  pub no_digit : plan_len Ten [] ≡ None
  pub one_digit : plan_len Ten (2 ∷ []) ≡ None
  pub two_digits : plan_len Ten (2 ∷ 0 ∷ []) ≡ None
