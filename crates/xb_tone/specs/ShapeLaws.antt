-- How a key sounds that is disturbed: detuned, with one tone late, or with a hole; 8 samples in a ms.
use Rattle.std.specs.Prelude.{ℕ, ◌≡◌, ◌≤◌, ◌<◌, ◌+◌, ◌*◌, false, ℤ, pos, ◌+ℤ◌}
use Rattle.xb_model.specs.declared.key.Tone.{Tone as Pair}
use Rattle.xb_signal.specs.declared.segment.Sound.TheVariants.{Keyed}
use Rattle.xb_signal.specs.declared.setting.Setting.{Setting}
use Rattle.xb_signal.specs.declared.shape.Shape.{Shape}
use Rattle.xb_signal.specs.OneSample.{clean_sample}
use Rattle.xb_signal.specs.Shapes.{tuned}
use Rattle.xb_signal.specs.Waves.{scaled, wave_sample}

-- a frequency at a pitch in thousandths is the nearest whole Hz, and of two that are as near the greater
pub record TunesToTheNearest (pitch hz : ℕ) : Type 0 where
  pub not_above : 1000 * tuned pitch hz ≤ hz * pitch + 500
  pub not_below : hz * pitch < 1000 * tuned pitch hz + 500

-- sample n of a key, with nothing added
abbrev pub key_sample : Setting → ℕ → Pair → ℕ → ℤ
key_sample setting state pair n = clean_sample setting state (Keyed pair) n

-- the same without a hole
abbrev pub whole_sample : Setting → ℕ → Pair → ℕ → ℤ
whole_sample setting state pair n =
    key_sample (record setting { shape = record setting.shape { hole_ms = 0 } }) state pair n

-- in a hole a key is silent, and before it and after it sounds as if there were none
pub record HolesAreSilent (setting : Setting) (state : ℕ) (pair : Pair) (n : ℕ) : Type 0 where
  pub within : setting.shape.hole_from_ms * 8 ≤ n → n < (setting.shape.hole_from_ms + setting.shape.hole_ms) * 8
      → key_sample setting state pair n ≡ pos 0
  pub before : n < setting.shape.hole_from_ms * 8
      → key_sample setting state pair n ≡ whole_sample setting state pair n
  pub after : (setting.shape.hole_from_ms + setting.shape.hole_ms) * 8 ≤ n
      → key_sample setting state pair n ≡ whole_sample setting state pair n

-- sample n of the low tone of a key from its beginning on, and of the high one
abbrev pub low_tone : Setting → Pair → ℕ → ℤ
low_tone setting pair n = scaled setting.low (wave_sample (tuned setting.shape.pitch pair.low) n)

abbrev pub high_tone : Setting → Pair → ℕ → ℤ
high_tone setting pair n = scaled setting.high (wave_sample (tuned setting.shape.pitch pair.high) n)

-- it has no hole, and both tones begin at 0
pub record IsUnbroken (shape : Shape) : Type 0 where
  pub hole : shape.hole_ms ≡ 0
  pub start : shape.is_drawn ≡ false

-- where one tone is late, the other one sounds alone until that begins, and then both do, each from its own beginning on
pub record LateTonesWait (setting : Setting) (state : ℕ) (pair : Pair) (n : ℕ) : Type 0 where
  pub low_waits : setting.shape.high_late_ms ≡ 0 → n < setting.shape.low_late_ms * 8
      → key_sample setting state pair n ≡ high_tone setting pair n
  pub low_comes : (later : ℕ) → setting.shape.high_late_ms ≡ 0 → n ≡ setting.shape.low_late_ms * 8 + later
      → key_sample setting state pair n ≡ low_tone setting pair later +ℤ high_tone setting pair n
  pub high_waits : setting.shape.low_late_ms ≡ 0 → n < setting.shape.high_late_ms * 8
      → key_sample setting state pair n ≡ low_tone setting pair n
  pub high_comes : (later : ℕ) → setting.shape.low_late_ms ≡ 0 → n ≡ setting.shape.high_late_ms * 8 + later
      → key_sample setting state pair n ≡ low_tone setting pair n +ℤ high_tone setting pair later

pub record ShapesAreSounded : Type 0 where
  pub detuned : (pitch hz : ℕ) → TunesToTheNearest pitch hz
  pub holes : (setting : Setting) (state : ℕ) (pair : Pair) (n : ℕ) → HolesAreSilent setting state pair n
  pub skewed : (setting : Setting) (state : ℕ) (pair : Pair) (n : ℕ) → IsUnbroken setting.shape
      → LateTonesWait setting state pair n
