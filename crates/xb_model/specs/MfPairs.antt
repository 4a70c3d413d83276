-- The MF pairs, in Hz ("Notes on Distance Dialing").
use Rattle.std.specs.Prelude.{ℕ, List, [], ◌∷◌, if◌then◌else◌, ◌==◌, ◌&&◌, slice_index_or, Option, Some, option_map}
use Rattle.std.specs.List.{position}
use Rattle.xb_model.specs.declared.key.Tone.{Tone}
use Rattle.xb_model.specs.declared.key.Key.{Key}
use Rattle.xb_model.specs.declared.key.Key.TheVariants.{Digit, Kp, St}
use Rattle.xb_model.specs.declared.signal.TheConstants.{MOST_PULSES}
use Rattle.xb_model.specs.TwoOfFive.{operated, good_pattern}

abbrev pub pair : ℕ → ℕ → Tone
pair low high = record { low = low; high = high }

-- the five elements, read as frequencies
abbrev pub frequencies : List ℕ
frequencies = 700 ∷ 900 ∷ 1100 ∷ 1300 ∷ 1500 ∷ []

-- the two that operate
abbrev pub pair_of_two : List ℕ → Tone
pair_of_two two = pair (slice_index_or two 0 0) (slice_index_or two 1 0)

-- the two elements of a digit, read as frequencies; digit 0 has the most pulses
abbrev pub digit_pair : ℕ → Tone
digit_pair d = pair_of_two (operated frequencies (good_pattern (if d == 0 then MOST_PULSES else d)))

-- the pair of a key
abbrev pub mf_pair : Key → Tone
mf_pair (Digit d) = digit_pair d
mf_pair Kp = pair 1100 1700
mf_pair St = pair 1500 1700

-- the digit of a pair
abbrev pub digit_of_pair : Tone → Option ℕ
digit_of_pair p =
    position (λ d. ((digit_pair d).low == p.low) && ((digit_pair d).high == p.high))
    (0 ∷ 1 ∷ 2 ∷ 3 ∷ 4 ∷ 5 ∷ 6 ∷ 7 ∷ 8 ∷ 9 ∷ [])

-- the key of a pair
abbrev pub key_of_pair : Tone → Option Key
key_of_pair p =
    if (p.low == 1100) && (p.high == 1700) then Some Kp
    else (if (p.low == 1500) && (p.high == 1700) then Some St else option_map Digit (digit_of_pair p))
