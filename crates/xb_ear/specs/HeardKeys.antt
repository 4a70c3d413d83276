-- What is keyed is heard, disturbed too.
use Rattle.std.specs.Prelude.{◌≡◌, ◌≢◌, ℕ, ◌<◌, ◌≤◌, List, [], ◌∷◌, ◌++◌, map, Option, Some, None, ℤ, unsigned_abs}
use Rattle.std.specs.List.{AllByRecursion, flat_map}
use Rattle.xb_model.specs.declared.digit.TheConstants.{DIGITS}
use Rattle.xb_model.specs.declared.key.Key.{Key}
use Rattle.xb_model.specs.declared.key.Key.TheVariants.{Digit, Kp, St}
use Rattle.xb_model.specs.declared.key.Tone.{Tone as Pair}
use Rattle.xb_model.specs.declared.mark.Mark.{Mark}
use Rattle.xb_model.specs.declared.mark.Mark.TheVariants.{Trunk, Tone, Refused}
use Rattle.xb_model.specs.Keyings.{keying}
use Rattle.xb_sound.specs.declared.cadence.Cadence.{Cadence}
use Rattle.xb_sound.specs.HeardKeys.{AreKeyed, frequencies_of, keys_of, keys_with}
use Rattle.xb_sound.specs.Cadences.{tone_ms}
use Rattle.xb_sound.specs.Sounds.{silence, sound_of, tone_sound}
use Rattle.xb_ear.specs.declared.hearing.Heard.{Heard}
use Rattle.xb_ear.specs.Disturbed.{AreWithin, IsNear, bounded}
use Rattle.xb_ear.specs.Ears.{heard}
use Rattle.xb_ear.specs.Receivers.{keys_of_sound}

-- the greatest disturbance of a sample that is borne in silence; a tone's amplitude is 10,000, so this is 31 dB less
abbrev pub MOST_NOISE : ℕ
MOST_NOISE = 277

-- and within the tone of a key: 20 dB less
abbrev pub MOST_NOISE_IN_TONES : ℕ
MOST_NOISE_IN_TONES = 923

-- no tone or gap is shorter than these, in ms; there is no longest
pub record IsHearable (cadence : Cadence) : Type 0 where
  pub kp : 55 ≤ cadence.kp_ms
  pub key : 30 ≤ cadence.key_ms
  pub gap : 30 ≤ cadence.gap_ms

-- nor than these, where each key is another than the one before it
pub record IsHearableUnlike (cadence : Cadence) : Type 0 where
  pub kp : 55 ≤ cadence.kp_ms
  pub key : 30 ≤ cadence.key_ms
  pub gap : 13 ≤ cadence.gap_ms

-- the pairs of what is heard, in order
abbrev pub pairs_in : List Heard → List Pair
pairs_in keys = map (λ (key : Heard). key.sight.pair) keys

abbrev pub keys_in : List Heard → List Key
keys_in keys = flat_map (λ p. keys_with (frequencies_of p)) (pairs_in keys)

-- the pairs of marks, in order
abbrev pub tones_of_mark : Mark → List Pair
tones_of_mark (Trunk t) = []
tones_of_mark (Tone key p) = p ∷ []
tones_of_mark (Refused reason count) = []

abbrev pub tones_of : List Mark → List Pair
tones_of marks = flat_map tones_of_mark marks

-- each pair is another than the one before it
abbrev pub AreUnlike : Option Pair → List Pair → Type 0
AreUnlike before [] = Unit {0}
AreUnlike before (p ∷ ps) = (before ≢ Some p) × AreUnlike (Some p) ps

-- the sound of marks, and how much each of its samples may be changed
abbrev pub mark_disturbable : Cadence → Mark → List (ℤ × ℕ)
mark_disturbable cadence (Trunk t) = bounded MOST_NOISE (silence cadence.lead_ms)
mark_disturbable cadence (Tone key p) = bounded MOST_NOISE_IN_TONES (tone_sound p (tone_ms cadence key))
    ++ bounded MOST_NOISE (silence cadence.gap_ms)
mark_disturbable cadence (Refused reason count) = []

abbrev pub disturbable : Cadence → List Mark → List (ℤ × ℕ)
disturbable cadence marks = flat_map (λ mark. mark_disturbable cadence mark) marks

-- just the pairs of the marks are heard in samples, in order, and so just their keys
pub record IsHeardAs (samples : List ℤ) (marks : List Mark) : Type 0 where
  pub pairs : pairs_in (keys_of_sound samples) ≡ tones_of marks
  pub keys : keys_in (keys_of_sound samples) ≡ keys_of marks

-- of the sound of marks, as any such disturbance has left it
abbrev pub DisturbedKeysAreHeard : Type 0
DisturbedKeysAreHeard = (cadence : Cadence) (marks : List Mark) (samples : List ℤ) → IsHearable cadence → AreKeyed marks
    → AreWithin (disturbable cadence marks) samples → IsHeardAs samples marks

-- gaps may be shorter where no key is followed by the same one
abbrev pub UnlikeKeysAreHeard : Type 0
UnlikeKeysAreHeard = (cadence : Cadence) (marks : List Mark) (samples : List ℤ) → IsHearableUnlike cadence
    → AreKeyed marks → AreUnlike None (tones_of marks) → AreWithin (disturbable cadence marks) samples
    → IsHeardAs samples marks

-- of the sound of marks with a disturbance that is nowhere greater than silence bears
abbrev pub NoisyKeysAreHeard : Type 0
NoisyKeysAreHeard = (cadence : Cadence) (marks : List Mark) (samples : List ℤ) → IsHearable cadence → AreKeyed marks
    → IsNear MOST_NOISE (sound_of cadence marks) samples → IsHeardAs samples marks

-- so of a keying: KP, its digits, ST
abbrev pub DisturbedKeyingsAreHeard : Type 0
DisturbedKeyingsAreHeard = (cadence : Cadence) (trunk : ℕ) (digits : List ℕ) (samples : List ℤ) → IsHearable cadence
    → AllByRecursion (λ d. d < DIGITS) digits → AreWithin (disturbable cadence (keying trunk digits)) samples
    → keys_in (keys_of_sound samples) ≡ Kp ∷ (map (λ d. Digit d) digits ++ St ∷ [])

-- the clean sound itself
abbrev pub CleanKeysAreHeard : Type 0
CleanKeysAreHeard = (cadence : Cadence) (marks : List Mark) → IsHearable cadence → AreKeyed marks
    → IsHeardAs (sound_of cadence marks) marks

-- of silence, disturbed too, nothing is heard
abbrev pub SilenceIsSilent : Type 0
SilenceIsSilent = (samples : List ℤ) → AllByRecursion (λ x. unsigned_abs x ≤ MOST_NOISE) samples
    → keys_of_sound samples ≡ []

-- what was heard is not taken back: a stream that is cut anywhere gives the same as far as it goes
abbrev pub HearsSoFar : Type 0
HearsSoFar = (earlier later : List ℤ)
    → (rest : List Heard) × (heard (earlier ++ later) ≡ heard earlier ++ rest)
