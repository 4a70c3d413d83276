-- Keys that are mixed with a sound that lies beside the six frequencies, such as a steady sine.
use Rattle.std.specs.Prelude.{◌≡◌, ℕ, ◌+◌, ◌*◌, ◌/◌, ◌%◌, ◌<◌, ◌≤◌, List, [], ◌∷◌, map, length, ℤ, pos, ◌+ℤ◌, ◌*ℤ◌, unsigned_abs}
use Rattle.std.specs.List.{AllByRecursion, range_with_len}
use Rattle.xb_model.specs.declared.mark.Mark.{Mark}
use Rattle.xb_model.specs.declared.mark.Mark.TheVariants.{Trunk}
use Rattle.xb_sound.specs.declared.cadence.Cadence.{Cadence}
use Rattle.xb_sound.specs.HeardKeys.{AreKeyed}
use Rattle.xb_sound.specs.Sines.{sine_at}
use Rattle.xb_sound.specs.Sounds.{sound_of}
use Rattle.xb_ear.specs.Disturbed.{IsNear}
use Rattle.xb_ear.specs.Ears.{window, windows_in}
use Rattle.xb_ear.specs.HeardKeys.{IsHearable, IsHeardAs}
use Rattle.xb_ear.specs.Levels.{correlated, cosine_of, level, sine_of, squares}
use Rattle.xb_ear.specs.Pairs.{six}

-- two sounds at once, for as long as both last
abbrev pub mixed : List ℤ → List ℤ → List ℤ
mixed [] ys = []
mixed (x ∷ xs) [] = []
mixed (x ∷ xs) (y ∷ ys) = (x +ℤ y) ∷ mixed xs ys

-- a sine of a frequency, from any place of the table on
abbrev pub wave_from : ℕ → ℕ → ℕ → ℤ
wave_from place hz n = sine_at ((hz * n / 100 + place) % 80)

-- 80 samples hold at most an amplitude of 4.75 of a frequency, whatever its phase: an amplitude of 1 is a sum of
-- 400,000
abbrev pub HoldsLittleOf : ℕ → List ℤ → Type 0
HoldsLittleOf hz samples = (place : ℕ) → unsigned_abs (correlated (wave_from place hz) 0 samples) ≤ 1900000

-- so they do of each of the six, and they have no more power than a sine of such an amplitude
pub record IsBeside (amplitude : ℕ) (samples : List ℤ) : Type 0 where
  pub of700 : HoldsLittleOf 700 samples
  pub of900 : HoldsLittleOf 900 samples
  pub of1100 : HoldsLittleOf 1100 samples
  pub of1300 : HoldsLittleOf 1300 samples
  pub of1500 : HoldsLittleOf 1500 samples
  pub of1700 : HoldsLittleOf 1700 samples
  pub power : squares samples ≤ 40 * (amplitude * amplitude)

-- each window of a sound does
abbrev pub LiesBeside : ℕ → List ℤ → Type 0
LiesBeside amplitude sound = (w : ℕ) → w < windows_in (length sound) → IsBeside amplitude (window sound w)

-- keys are heard of the sound of marks that is mixed with such a one, where each sample is changed by at most so
-- much besides
abbrev pub AreHeardBeside : ℕ → ℕ → Type 0
AreHeardBeside amplitude noise = (cadence : Cadence) (marks : List Mark) (other samples : List ℤ)
    → IsHearable cadence
    → AreKeyed marks → length other ≡ length (sound_of cadence marks) → LiesBeside amplitude other
    → IsNear noise (mixed (sound_of cadence marks) other) samples → IsHeardAs samples marks

-- up to 1.2 dB more than a tone; and up to 0.8 dB more with noise that is 44 dB less than a tone
pub record BesideIsBorne : Type 0 where
  pub clean : AreHeardBeside 11510 0
  pub noisy : AreHeardBeside 11010 64

-- a wave that repeats 200 times a second, as a sine of 200 or 2,600 Hz does, or all multiples of 200 Hz at
-- once
abbrev pub Repeats : (ℕ → ℤ) → Type 0
Repeats wave = (n : ℕ) → wave (n + 40) ≡ wave n

-- as much of a wave as a sound lasts
abbrev pub ripple : (ℕ → ℤ) → List ℤ → List ℤ
ripple wave sound = map wave (range_with_len 0 (length sound))

-- such a wave changes no level of the six, in any window of any sound
abbrev pub LevelsAreKept : Type 0
LevelsAreKept = (wave : ℕ → ℤ) (samples : List ℤ) (w : ℕ) → Repeats wave → w < windows_in (length samples)
    → AllByRecursion
    (λ hz. level (window (mixed samples (ripple wave samples)) w) hz ≡ level (window samples w) hz) six

-- and keys are heard beside it, where no 80 samples of it have more power than a sine of such an amplitude
abbrev pub AreHeardBesideRipples : ℕ → ℕ → Type 0
AreHeardBesideRipples amplitude noise =
    (cadence : Cadence) (marks : List Mark) (wave : ℕ → ℤ) (samples : List ℤ)
    → IsHearable cadence → AreKeyed marks → Repeats wave
    → ((n : ℕ) → squares (map wave (range_with_len n 80)) ≤ 40 * (amplitude * amplitude))
    → IsNear noise (mixed (sound_of cadence marks) (ripple wave (sound_of cadence marks))) samples
    → IsHeardAs samples marks

pub record RipplesAreBorne : Type 0 where
  pub clean : AreHeardBesideRipples 11510 0
  pub noisy : AreHeardBesideRipples 11010 64

-- these samples are a steady sine of this frequency, of any phase: 10,000 times a sample is, to three units of a
-- sample, a times the sine and b times the one that is a quarter of a period ahead. One unit is for a sample that is
-- rounded up or down, and two are for the table, a and b, which are rounded too
abbrev pub IsSineOf : ℕ → ℤ → ℤ → List ℤ → Type 0
IsSineOf hz a b samples =
    IsNear 30000 (map (λ n. a *ℤ sine_of hz n +ℤ b *ℤ cosine_of hz n) (range_with_len 0 (length samples)))
    (map (λ x. pos 10000 *ℤ x) samples)

-- so are they with a steady sine of this frequency all through, of such an amplitude or less
abbrev pub AreHeardBesideSines : ℕ → ℕ → ℕ → Type 0
AreHeardBesideSines hz amplitude noise =
    (cadence : Cadence) (marks : List Mark) (a b : ℤ) (sine samples : List ℤ)
    → IsHearable cadence → AreKeyed marks → length sine ≡ length (sound_of cadence marks)
    → unsigned_abs a * unsigned_abs a + unsigned_abs b * unsigned_abs b ≤ amplitude * amplitude
    → IsSineOf hz a b sine
    → IsNear noise (mixed (sound_of cadence marks) sine) samples → IsHeardAs samples marks

pub record IsBorne (hz : ℕ) : Type 0 where
  pub clean : AreHeardBesideSines hz 11500 0
  pub noisy : AreHeardBesideSines hz 11000 64

pub record SteadySinesAreBorne : Type 0 where
  pub of100 : IsBorne 100
  pub of200 : IsBorne 200
  pub of300 : IsBorne 300
  pub of2600 : IsBorne 2600

-- where the sound of marks begins with a silence, so are they with a steady sine of an amplitude up to 12,767: that is
-- as much as samples of 16 bits leave beside two tones of 10,000
abbrev pub AreHeardBesideLouderSines : ℕ → Type 0
AreHeardBesideLouderSines hz = (cadence : Cadence) (marks : List Mark) (t : ℕ) (a b : ℤ) (sine : List ℤ)
    → IsHearable cadence → AreKeyed marks → 0 < cadence.lead_ms
    → length sine ≡ length (sound_of cadence (Trunk t ∷ marks))
    → unsigned_abs a * unsigned_abs a + unsigned_abs b * unsigned_abs b ≤ 12767 * 12767 → IsSineOf hz a b sine
    → IsHeardAs (mixed (sound_of cadence (Trunk t ∷ marks)) sine) (Trunk t ∷ marks)

pub record LouderSinesAreBorne : Type 0 where
  pub of100 : AreHeardBesideLouderSines 100
  pub of200 : AreHeardBesideLouderSines 200
  pub of300 : AreHeardBesideLouderSines 300
  pub of2600 : AreHeardBesideLouderSines 2600
