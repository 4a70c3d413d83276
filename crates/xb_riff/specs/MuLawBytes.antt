-- The bytes of mu-law that samples are coded as.
use Rattle.std.specs.Prelude.{ℕ, ◌+◌, ◌-◌, ◌*◌, ◌≤◌, ◌<◌, if◌then◌else◌, nat_le, int_lt, List, [], ◌∷◌, ℤ, pos, ◌-ℤ◌, unsigned_abs}
use Rattle.std.specs.List.{count_by, range_with_len}
use Rattle.xb_riff.specs.Codings.{magnitude, mu_law_sample}

-- a byte stands for a sample where no other byte stands for a nearer one
abbrev pub IsCodedAs : ℤ → ℕ → Type 0
IsCodedAs sample byte = (other : ℕ) → other < 256
    → unsigned_abs (mu_law_sample byte -ℤ sample) ≤ unsigned_abs (mu_law_sample other -ℤ sample)

abbrev pub AreCodedAs : List ℤ → List ℕ → Type 0
AreCodedAs [] [] = Unit {0}
AreCodedAs [] (byte ∷ bytes) = ⊥
AreCodedAs (sample ∷ samples) [] = ⊥
AreCodedAs (sample ∷ samples) (byte ∷ bytes) = IsCodedAs sample byte × AreCodedAs samples bytes

-- how many of the bounds between neighbouring magnitudes a size has reached, each of which lies halfway
unfoldable pub nearest_code : ℕ → ℕ
nearest_code size =
    count_by (λ code. nat_le (magnitude code + magnitude (code + 1)) (2 * size)) (range_with_len 0 127)

-- the byte of a sample, whose sign it has; of two that stand for as near ones it is that of the one farther from zero
abbrev pub mu_law_byte : ℤ → ℕ
mu_law_byte sample =
    if int_lt sample (pos 0) then 127 - nearest_code (unsigned_abs sample) else 255 - nearest_code (unsigned_abs sample)
