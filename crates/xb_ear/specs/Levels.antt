-- How strong each MF frequency is in a window of samples.
use Rattle.std.specs.Prelude.{ℕ, ◌+◌, ◌-◌, ◌*◌, ◌/◌, ◌%◌, ◌^◌, ◌<◌, List, [], ◌∷◌, ℤ, pos, ◌+ℤ◌, ◌*ℤ◌, unsigned_abs}
use Rattle.xb_ear.specs.declared.correlation.Wave.{Wave}
use Rattle.xb_ear.specs.declared.correlation.Wave.TheVariants.{Sine, Cosine}
use Rattle.xb_ear.specs.declared.levels.Levels.{Levels}
use Rattle.xb_sound.specs.Sines.{sine_at, sine_sample}

-- a sine of a frequency, and one that is a quarter of a period ahead of it
abbrev pub sine_of : ℕ → ℕ → ℤ
sine_of hz n = sine_sample hz n

abbrev pub cosine_of : ℕ → ℕ → ℤ
cosine_of hz n = sine_at ((hz * n / 100 + 20) % 80)

abbrev pub wave_of : Wave → ℕ → ℕ → ℤ
wave_of Sine hz = sine_of hz
wave_of Cosine hz = cosine_of hz

-- the sum of the products of samples with a wave, from its sample n on
unfoldable pub correlated : (ℕ → ℤ) → ℕ → List ℤ → ℤ
correlated wave n [] = pos 0
correlated wave n (x ∷ xs) = x *ℤ wave n +ℤ correlated wave (n + 1) xs

-- a sine of amplitude A correlates with itself to 400,000 times A over 80 samples (40 times the 10,000 of the table)
abbrev pub part : ℤ → ℕ
part sum = unsigned_abs sum / 400000

-- the amplitude squared of a frequency, whatever its phase
abbrev pub level : List ℤ → ℕ → ℕ
level window hz = part (correlated (sine_of hz) 0 window) ^ 2 + part (correlated (cosine_of hz) 0 window) ^ 2

-- the sum of the squares
unfoldable pub squares : List ℤ → ℕ
squares [] = 0
squares (x ∷ xs) = unsigned_abs x * unsigned_abs x + squares xs

-- the sum
unfoldable pub total : List ℤ → ℤ
total [] = pos 0
total (x ∷ xs) = x +ℤ total xs

-- the power of 80 samples but for their mean, which is what a steady voltage adds
abbrev pub power : List ℤ → ℕ
power window = (80 * squares window - unsigned_abs (total window) * unsigned_abs (total window)) / 3200

-- what a window holds: the level of each frequency, and the power of all, in the same measure
abbrev pub levels_of : List ℤ → Levels
levels_of window = record {
  hz700 = level window 700;
  hz900 = level window 900;
  hz1100 = level window 1100;
  hz1300 = level window 1300;
  hz1500 = level window 1500;
  hz1700 = level window 1700;
  power = power window;
}

-- each is below 2^40
pub record AreSmall (levels : Levels) : Type 0 where
  pub hz700 : levels.hz700 < 2 ^ 40
  pub hz900 : levels.hz900 < 2 ^ 40
  pub hz1100 : levels.hz1100 < 2 ^ 40
  pub hz1300 : levels.hz1300 < 2 ^ 40
  pub hz1500 : levels.hz1500 < 2 ^ 40
  pub hz1700 : levels.hz1700 < 2 ^ 40
  pub power : levels.power < 2 ^ 40
