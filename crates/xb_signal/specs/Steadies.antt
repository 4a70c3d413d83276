-- What sounds all through a signal: a steady tone, and the hum of the mains.
use Rattle.std.specs.Prelude.{ℕ, ◌+◌, ◌*◌, ◌/◌, ◌==◌, List, [], ◌∷◌, if◌then◌else◌, map, max, ℤ, pos, ◌+ℤ◌, unsigned_abs}
use Rattle.std.specs.List.{range_with_len}
use Rattle.xb_signal.specs.declared.steady.Steady.{Steady}
use Rattle.xb_signal.specs.Waves.{scaled, wave_sample}

abbrev pub silent_steady : Steady
silent_steady = record { hz = 0; amplitude = 0; hum = 0 }

-- a harmonic has as many times less of an amplitude as its number is, rounded, and a half up
abbrev pub portion : ℕ → ℕ → ℕ
portion amplitude number = (amplitude + number / 2) / number

-- the mains have 60 Hz, and begin at 0 as all their harmonics do
abbrev pub harmonic : ℕ → ℕ → ℕ → ℤ
harmonic amplitude number n = scaled (portion amplitude number) (wave_sample (60 * number) n)

unfoldable pub harmonics : ℕ → List ℕ → ℕ → ℤ
harmonics amplitude [] n = pos 0
harmonics amplitude (number ∷ more) n = harmonic amplitude number n +ℤ harmonics amplitude more n

-- the mains, and seven harmonics of them
abbrev pub mains_sample : ℕ → ℕ → ℤ
mains_sample amplitude n = harmonics amplitude (range_with_len 1 8) n

abbrev pub hum_sample : ℕ → ℕ → ℤ
hum_sample amplitude n = if amplitude == 0 then pos 0 else mains_sample amplitude n

abbrev pub greatest : List ℕ → ℕ
greatest [] = 0
greatest (x ∷ xs) = max x (greatest xs)

-- the greatest of so many samples of them, from one on
unfoldable pub peak_from : ℕ → ℕ → ℕ → ℕ
peak_from amplitude n count = greatest (map (λ n. unsigned_abs (mains_sample amplitude n)) (range_with_len n count))

-- they come again after 400 samples
abbrev pub mains_peak : ℕ → ℕ
mains_peak amplitude = peak_from amplitude 0 400

abbrev pub hum_peak : ℕ → ℕ
hum_peak amplitude = if amplitude == 0 then 0 else mains_peak amplitude

abbrev pub tone_sample : Steady → ℕ → ℤ
tone_sample steady n =
    if steady.amplitude == 0 then pos 0 else scaled steady.amplitude (wave_sample steady.hz n)

-- sample n of both
abbrev pub steady_sample : Steady → ℕ → ℤ
steady_sample steady n = tone_sample steady n +ℤ hum_sample steady.hum n

-- how much they may add to a sample, or take from it: as if both were greatest at once
abbrev pub steady_peak : Steady → ℕ
steady_peak steady = steady.amplitude + hum_peak steady.hum
