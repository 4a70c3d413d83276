-- How loud a sound is.
use Rattle.std.specs.Prelude.{ℕ, ◌+◌, ◌*◌, ◌/◌, ◌==◌, List, [], ◌∷◌, ◌++◌, codes, if◌then◌else◌, length, max, ℤ, unsigned_abs}
use Rattle.xb_ear.specs.Levels.{squares}
use Rattle.xb_measured.specs.declared.levels.TheConstants.{ZERO_DBM0}
use Rattle.xb_measured.specs.Levels.{tenths_of, tenths_text}
use Rattle.xb_measured.specs.Seconds.{seconds_text}

-- how far the strongest sample is from 0
unfoldable pub peak_of : List ℤ → ℕ
peak_of [] = 0
peak_of (x ∷ xs) = max (unsigned_abs x) (peak_of xs)

-- how many samples there are, the strongest, and the sum of their squares
pub record Metered : Type 0 where
  pub samples : ℕ
  pub peak : ℕ
  pub squares : ℕ

abbrev pub metered : List ℤ → Metered
metered samples = record { samples = length samples; peak = peak_of samples; squares = squares samples }

-- the peak has the level of a sine of this amplitude
abbrev pub peak_text : ℕ → List ℕ
peak_text peak = tenths_text (tenths_of (peak * peak)) ZERO_DBM0

-- the mean has the level of a sine of the same power: the square of its amplitude is twice the mean of the squares.
-- A thousand times as much, rounded down, has 300 tenths more
abbrev pub mean_text : ℕ → ℕ → List ℕ
mean_text samples sum = tenths_text (tenths_of (2000 * sum / samples)) (ZERO_DBM0 + 300)

abbrev pub loudness_text : ℕ → ℕ → ℕ → List ℕ
loudness_text samples peak sum =
    if peak == 0 then codes "silence"
    else codes "peak " ++ (peak_text peak ++ (codes " dBm0, mean " ++ (mean_text samples sum ++ codes " dBm0")))

-- how long a sound is, at 8 samples a ms, and how loud
abbrev pub quiet_line : Metered → List ℕ
quiet_line m =
    codes "mfrx: no key is heard in " ++ (seconds_text (m.samples / 8) ++ (codes " s: "
    ++ (loudness_text m.samples m.peak m.squares ++ codes "\n")))
