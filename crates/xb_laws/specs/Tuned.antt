-- What is told of a clean, tuned key: its frequencies, and the level and the twist that were asked for.
use Rattle.std.specs.Prelude.{◌≡◌, ℕ, List, map, Some, ℤ, pos, neg_ℤ, ◌+ℤ◌, ◌-ℤ◌, ◌≤ℤ◌}
use Rattle.std.specs.List.{AllByRecursion, range_with_len}
use Rattle.xb_model.specs.declared.key.Tone.{Tone as Pair}
use Rattle.xb_ear.specs.Pairs.{mf_pairs}
use Rattle.xb_measured.specs.declared.heard.MeasuredTone.{MeasuredTone}
use Rattle.xb_measured.specs.declared.levels.TheConstants.{ZERO_DBM0}
use Rattle.xb_measured.specs.Levels.{tenths_of}
use Rattle.xb_measured.specs.Tones.{tone_of}
use Rattle.xb_signal.specs.declared.segment.Sound.TheVariants.{Keyed}
use Rattle.xb_signal.specs.declared.setting.Setting.{Setting}
use Rattle.xb_signal.specs.Levels.{amplitude_of}
use Rattle.xb_signal.specs.Settings.{standard_setting}
use Rattle.xb_signal.specs.OneSample.{clean_sample}
use Rattle.xb_signal.specs.SignalLaws.{IsPlain}

-- 200 samples of a key, from its sample n on, with nothing added and nothing cut
abbrev pub stretch_from : Setting → ℕ → Pair → ℕ → List ℤ
stretch_from setting state pair n = map (clean_sample setting state (Keyed pair)) (range_with_len n 200)

-- the levels that were asked for, in tenths of a dB: of the low tone in dBm0, and how much more the high one has. Each
-- is from -30.0 dBm0 to 0.0, and louder than that there is none
pub record IsAsked (setting : Setting) (level twist : ℤ) : Type 0 where
  pub low : amplitude_of level (pos 0) ≡ Some setting.low
  pub high : amplitude_of level twist ≡ Some setting.high
  pub low_least : neg_ℤ (pos 300) ≤ℤ level
  pub high_least : neg_ℤ (pos 300) ≤ℤ (level +ℤ twist)

-- the level that is told of a tone, in tenths of a dBm0
abbrev pub told : MeasuredTone → ℤ
told tone = pos (tenths_of tone.level) -ℤ pos ZERO_DBM0

-- what a receiver tells of two frequencies in some samples: each is 0 Hz off, and level and twist are these
pub record IsTold (pair : Pair) (level twist : ℤ) (samples : List ℤ) : Type 0 where
  pub low_hz : (tone_of pair.low samples).hz ≡ pair.low
  pub high_hz : (tone_of pair.high samples).hz ≡ pair.high
  pub level_is : told (tone_of pair.low samples) ≡ level
  pub twist_is : told (tone_of pair.high samples) -ℤ told (tone_of pair.low samples) ≡ twist

-- so it is wherever in the key these samples begin
abbrev pub KeyIsTold : Pair → Type 0
KeyIsTold pair = (setting : Setting) (state : ℕ) (level twist : ℤ) (n : ℕ)
    → IsPlain setting.shape → IsAsked setting level twist
    → IsTold pair level twist (stretch_from setting state pair n)

-- of each pair of the six frequencies
abbrev pub KeysAreTold : Type 0
KeysAreTold = AllByRecursion KeyIsTold mf_pairs

-- of keys with no option that is -7.2 dBm0, with no twist
abbrev pub StandardIsTold : Pair → Type 0
StandardIsTold pair = (state n : ℕ) → IsTold pair (neg_ℤ (pos 72)) (pos 0) (stretch_from standard_setting state pair n)

abbrev pub StandardKeysAreTold : Type 0
StandardKeysAreTold = AllByRecursion StandardIsTold mf_pairs
