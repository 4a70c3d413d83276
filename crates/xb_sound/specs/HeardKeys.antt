-- What is heard of keys.
use Rattle.std.specs.Prelude.{◌≡◌, ℕ, ◌+◌, ◌*◌, ◌<◌, ◌≤◌, ◌^◌, List, [], ◌∷◌, ◌++◌, Bool, true, false, ◌&&◌, ◌||◌, ◌==◌, if◌then◌else◌, drop, length, map, nat_le, nat_lt, take, unsigned_abs, ℤ}
use Rattle.std.specs.List.{AllByRecursion, filter, flat_map, list_all, range_with_len}
use Rattle.xb_model.specs.declared.digit.TheConstants.{DIGITS}
use Rattle.xb_model.specs.declared.key.Key.{Key}
use Rattle.xb_model.specs.declared.key.Key.TheVariants.{Digit, Kp, St}
use Rattle.xb_model.specs.declared.key.Tone.{Tone as Pair}
use Rattle.xb_model.specs.declared.mark.Mark.{Mark}
use Rattle.xb_model.specs.declared.mark.Mark.TheVariants.{Trunk, Tone, Refused}
use Rattle.xb_model.specs.Keyings.{keying}
use Rattle.xb_model.specs.MfPairs.{mf_pair}
use Rattle.xb_sound.specs.declared.cadence.Cadence.{Cadence}
use Rattle.xb_sound.specs.Cadences.{IsSetApart, tone_ms}
use Rattle.xb_sound.specs.Receiver.{energy, heard, loud_energy, mf_frequencies}
use Rattle.xb_sound.specs.Sines.{pair_sample}
use Rattle.xb_sound.specs.Sounds.{sound_of}

-- a digit of a key is 0 to 9
abbrev pub IsKey : Key → Type 0
IsKey (Digit d) = d < DIGITS
IsKey Kp = Unit {0}
IsKey St = Unit {0}

abbrev pub frequencies_of : Pair → List ℕ
frequencies_of pair = pair.low ∷ pair.high ∷ []

-- 80 samples of a tone, from sample n on
abbrev pub ten_ms : Pair → ℕ → List ℤ
ten_ms pair n = map (λ k. pair_sample pair k) (range_with_len n 80)

-- of a frequency there is 80 dB less than of a tone
abbrev pub quiet_energy : ℕ
quiet_energy = 10 ^ 11

abbrev pub is_of : Pair → ℕ → Bool
is_of pair hz = (hz == pair.low) || (hz == pair.high)

-- the two frequencies of a pair are loud, and of any other there is 80 dB less
abbrev pub is_clear : Pair → List ℤ → Bool
is_clear pair samples =
    list_all (λ hz. if is_of pair hz then nat_le loud_energy (energy samples hz)
    else nat_lt (energy samples hz) quiet_energy) mf_frequencies

-- in any 10 ms of the tone of a key, just its two frequencies sound
abbrev pub KeysAreClear : Type 0
KeysAreClear = (key : Key) (n : ℕ) → IsKey key → is_clear (mf_pair key) (ten_ms (mf_pair key) n) ≡ true

-- so it is in the sound of marks, at each 10 ms that lie within the tone of one of them
abbrev pub TonesAreClear : Type 0
TonesAreClear = (cadence : Cadence) (earlier later : List Mark) (key : Key) (n : ℕ) → IsKey key
    → n + 80 ≤ tone_ms cadence key * 8
    → is_clear (mf_pair key) (take 80 (drop (length (sound_of cadence earlier) + n)
    (sound_of cadence (earlier ++ Tone key (mf_pair key) ∷ later)))) ≡ true

-- no sample is beyond 20,000, where a sample may be as great as 32,767
abbrev pub NothingClips : Type 0
NothingClips = (cadence : Cadence) (marks : List Mark)
    → AllByRecursion (λ sample. unsigned_abs sample ≤ 20000) (sound_of cadence marks)

-- a mark of a key has the pair of that key
abbrev pub IsKeyed : Mark → Type 0
IsKeyed (Trunk t) = Unit {0}
IsKeyed (Tone key pair) = IsKey key × (pair ≡ mf_pair key)
IsKeyed (Refused reason heard) = Unit {0}

abbrev pub AreKeyed : List Mark → Type 0
AreKeyed marks = AllByRecursion IsKeyed marks

abbrev pub keys_of_mark : Mark → List Key
keys_of_mark (Trunk t) = []
keys_of_mark (Tone key pair) = key ∷ []
keys_of_mark (Refused reason heard) = []

-- the two frequencies of each key of marks, in order
abbrev pub pairs_of_mark : Mark → List (List ℕ)
pairs_of_mark (Trunk t) = []
pairs_of_mark (Tone key pair) = frequencies_of pair ∷ []
pairs_of_mark (Refused reason heard) = []

abbrev pub pairs_of : List Mark → List (List ℕ)
pairs_of marks = flat_map pairs_of_mark marks

-- the keys of marks, in order
abbrev pub keys_of : List Mark → List Key
keys_of marks = flat_map keys_of_mark marks

-- the keys that there are
abbrev pub all_keys : List Key
all_keys =
    Kp ∷ Digit 1 ∷ Digit 2 ∷ Digit 3 ∷ Digit 4 ∷ Digit 5 ∷ Digit 6 ∷ Digit 7 ∷ Digit 8 ∷ Digit 9 ∷ Digit 0
    ∷ St ∷ []

abbrev pub are_same : List ℕ → List ℕ → Bool
are_same [] [] = true
are_same [] (y ∷ ys) = false
are_same (x ∷ xs) [] = false
are_same (x ∷ xs) (y ∷ ys) = (x == y) && are_same xs ys

-- the key whose two frequencies these are
abbrev pub keys_with : List ℕ → List Key
keys_with frequencies = filter (λ key. are_same (frequencies_of (mf_pair key)) frequencies) all_keys

-- the keys that a receiver hears
abbrev pub keys_heard : List ℤ → List Key
keys_heard samples = flat_map keys_with (heard samples)

-- a receiver hears the two frequencies of each key, in order, and nothing else; so it hears the keys
pub record IsHeard (sound : List ℤ) (marks : List Mark) : Type 0 where
  pub pairs : heard sound ≡ pairs_of marks
  pub keys : keys_heard sound ≡ keys_of marks

abbrev pub KeysAreHeard : Type 0
KeysAreHeard = (cadence : Cadence) (marks : List Mark) → IsSetApart cadence → AreKeyed marks
    → IsHeard (sound_of cadence marks) marks

-- of a keying: KP, its digits, ST
abbrev pub KeyingsAreHeard : Type 0
KeyingsAreHeard = (cadence : Cadence) (trunk : ℕ) (digits : List ℕ) → IsSetApart cadence
    → AllByRecursion (λ d. d < DIGITS) digits
    → keys_heard (sound_of cadence (keying trunk digits)) ≡ Kp ∷ (map (λ d. Digit d) digits ++ St ∷ [])
