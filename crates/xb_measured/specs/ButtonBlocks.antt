-- The digits of a push-button telephone in a sound: in blocks of 160 samples, which are 20 ms.
use Rattle.std.specs.Prelude.{◌≡◌, ℕ, zero, suc, ◌+◌, ◌-◌, ◌*◌, ◌/◌, ◌%◌, ◌^◌, List, [], ◌∷◌, Bool, ◌&&◌, drop, if◌then◌else◌, length, max, min, nat_le, take, ℤ, unsigned_abs}
use Rattle.xb_ear.specs.Levels.{correlated, squares}
use Rattle.xb_signal.specs.Waves.{wave_at}
use Rattle.xb_measured.specs.declared.button_block.TheConstants.{HIGH, LEAST_LEVEL, LOW, SHARE, SHARE_OF, TWIST}

-- sample n of a frequency in Hz, so many of the 8,000 samples of a period of 1 Hz ahead
abbrev pub wave_of : ℕ → ℕ → ℕ → ℤ
wave_of hz ahead n = wave_at ((hz * n + ahead) % 8000)

-- a sine of amplitude A correlates with itself to 800,000 times A over 160 samples (80 times the 10,000 of the table)
abbrev pub part : ℤ → ℕ
part sum = unsigned_abs sum / 800000

-- the amplitude squared of a frequency, whatever its phase
abbrev pub level : List ℤ → ℕ → ℕ
level block hz = part (correlated (wave_of hz 0) 0 block) ^ 2 + part (correlated (wave_of hz 2000) 0 block) ^ 2

-- the level of the strongest of frequencies
abbrev pub strongest : List ℤ → List ℕ → ℕ
strongest block [] = 0
strongest block (hz ∷ more) = max (level block hz) (strongest block more)

-- the power of 160 samples, in the same measure
abbrev pub power : List ℤ → ℕ
power block = squares block / 80

-- two tones make a digit: neither is a whisper, nor out of all proportion, and they hold most of the power
abbrev pub make_digit : ℕ → ℕ → ℕ → Bool
make_digit low high power =
    nat_le LEAST_LEVEL (min low high) && nat_le (max low high) (TWIST * min low high)
    && nat_le (SHARE * power) (SHARE_OF * (low + high))

-- whether a digit sounds in a block: one of the low frequencies and one of the high ones
abbrev pub has_digit : List ℤ → Bool
has_digit block = make_digit (strongest block LOW) (strongest block HIGH) (power block)

-- a block of samples, by its number
abbrev pub block : List ℤ → ℕ → List ℤ
block samples b = take 160 (drop (160 * b) samples)

-- in how many of the first blocks a digit sounds
abbrev pub digits_before : List ℤ → ℕ → ℕ
digits_before samples zero = 0
digits_before samples (suc b) = (if has_digit (block samples b) then 1 else 0) + digits_before samples b

-- in how many blocks of samples a digit sounds
abbrev pub digit_blocks : List ℤ → ℕ
digit_blocks samples = digits_before samples (length samples / 160)

-- what is known after samples: those that stand in no whole block, and in how many blocks a digit sounds
pub record Pressed : Type 0 where
  pub rest : List ℤ
  pub blocks : ℕ

-- these are the samples that were taken so far; counting stops at the greatest number that there is
pub record HasTaken (pressed : Pressed) (samples : List ℤ) : Type 0 where
  pub rest : pressed.rest ≡ drop (160 * (length samples / 160)) samples
  pub blocks : pressed.blocks ≡ min (digit_blocks samples) (2 ^ 64 - 1)
