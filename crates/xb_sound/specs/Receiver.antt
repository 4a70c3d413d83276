-- A receiver: it knows nothing of keys, and tells by samples alone which of the six MF frequencies
-- sound (own definition).
use Rattle.std.specs.Prelude.{ℕ, ◌+◌, ◌*◌, ◌/◌, ◌%◌, ◌^◌, List, [], ◌∷◌, Bool, false, map, take, if◌then◌else◌, nat_le, ℤ, pos, negsuc, ◌+ℤ◌, ◌*ℤ◌, unsigned_abs}
use Rattle.std.specs.List.{filter, range_with_len}
use Rattle.xb_sound.specs.Sines.{sine_at, sine_sample}

-- the six frequencies, in Hz
abbrev pub mf_frequencies : List ℕ
mf_frequencies = 700 ∷ 900 ∷ 1100 ∷ 1300 ∷ 1500 ∷ 1700 ∷ []

-- a sine of a frequency, and one that is a quarter of a period ahead of it
unfoldable pub sine_wave : ℕ → List ℤ
sine_wave hz = map (λ n. sine_sample hz n) (range_with_len 0 80)

unfoldable pub cosine_wave : ℕ → List ℤ
cosine_wave hz = map (λ n. sine_at ((hz * n / 100 + 20) % 80)) (range_with_len 0 80)

-- the sum of the products of samples
unfoldable pub correlation : List ℤ → List ℤ → ℤ
correlation [] ys = pos 0
correlation (x ∷ xs) [] = pos 0
correlation (x ∷ xs) (y ∷ ys) = x *ℤ y +ℤ correlation xs ys

-- how much of a frequency there is in 80 samples, whatever its phase
abbrev pub energy : List ℤ → ℕ → ℕ
energy samples hz =
    unsigned_abs (correlation samples (sine_wave hz)) ^ 2
    + unsigned_abs (correlation samples (cosine_wave hz)) ^ 2

-- a sine of amplitude 10,000 has an energy of about 1.6 * 10^19
abbrev pub loud_energy : ℕ
loud_energy = 10 ^ 19

-- the frequencies that sound in 80 samples
unfoldable pub loud_frequencies : List ℤ → List ℕ
loud_frequencies samples = filter (λ hz. nat_le loud_energy (energy samples hz)) mf_frequencies

abbrev pub is_zero : ℤ → Bool
is_zero (pos n) = nat_le n 0
is_zero (negsuc n) = false

-- after silence of 80 samples or more (10 ms), a sample that is not 0 begins a tone, and the 80
-- samples from it on tell which one; `silent` samples of 0 came before
unfoldable pub heard_after : ℕ → List ℤ → List (List ℕ)
heard_after silent [] = []
heard_after silent (x ∷ xs) =
    if is_zero x then heard_after (silent + 1) xs
    else (if nat_le 80 silent then loud_frequencies (take 80 (x ∷ xs)) ∷ heard_after 0 xs
    else heard_after 0 xs)

-- what is heard of samples, before which it was silent
abbrev pub heard : List ℤ → List (List ℕ)
heard samples = heard_after 80 samples
