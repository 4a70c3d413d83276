-- Sines of whole Hz, at 8,000 samples a second.
use Rattle.std.specs.Prelude.{ℕ, ◌+◌, ◌*◌, ◌/◌, ◌%◌, ◌-◌, List, [], ◌∷◌, if◌then◌else◌, nat_le, slice_index_or, ℤ, pos, negsuc, neg_ℤ, ◌+ℤ◌, unsigned_abs}
use Rattle.xb_signal.specs.declared.sine_table.TheConstants.{QUARTER}

-- 10,000 times the sine of each sample of the first quarter of a period of 1 Hz, rounded, from 0 to 2,000
unfoldable pub quarter : List ℕ
quarter = QUARTER

abbrev pub quarter_at : ℕ → ℕ
quarter_at place = slice_index_or quarter place 0

-- a period of 1 Hz, of 8,000 samples: a quarter up, the same down again, and both below zero
abbrev pub wave_at : ℕ → ℤ
wave_at place =
    if nat_le place 2000 then pos (quarter_at place)
    else (if nat_le place 4000 then pos (quarter_at (4000 - place))
    else (if nat_le place 6000 then neg_ℤ (pos (quarter_at (place - 4000)))
    else neg_ℤ (pos (quarter_at (8000 - place)))))

-- sample n of a frequency in Hz: it goes through the period hz times as fast as 1 Hz does
abbrev pub wave_sample : ℕ → ℕ → ℤ
wave_sample hz n = wave_at (hz * n % 8000)

-- a number with the sign of another
abbrev pub signed_as : ℤ → ℕ → ℤ
signed_as (pos x) size = pos size
signed_as (negsuc x) size = neg_ℤ (pos size)

-- a sample of the table at another amplitude than 10,000: rounded, and a half away from 0
abbrev pub scaled : ℕ → ℤ → ℤ
scaled amplitude sample = signed_as sample ((amplitude * unsigned_abs sample + 5000) / 10000)

-- sample n of frequencies that sound together, each at one amplitude
abbrev pub chorus : ℕ → List ℕ → ℕ → ℤ
chorus amplitude [] n = pos 0
chorus amplitude (hz ∷ more) n = scaled amplitude (wave_sample hz n) +ℤ chorus amplitude more n

-- the first, which is the low one of a key, has one amplitude, and each further one the other
abbrev pub mixed : ℕ → ℕ → List ℕ → ℕ → ℤ
mixed low high [] n = pos 0
mixed low high (first ∷ further) n = scaled low (wave_sample first n) +ℤ chorus high further n
