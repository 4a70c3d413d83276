-- The samples that bytes write.
use Rattle.std.specs.Prelude.{ℕ, ◌+◌, ◌-◌, ◌*◌, ◌/◌, ◌%◌, ◌^◌, ◌==◌, if◌then◌else◌, nat_lt, List, [], ◌∷◌, slice_index_or, ℤ, pos, neg_ℤ, ◌-ℤ◌, ◌*ℤ◌}
use Rattle.std.specs.Int.{cast_signed, from_le_bytes, w16, w32}
use Rattle.std.specs.Int.Bits.{bit_xor}
use Rattle.xb_riff.specs.declared.coding.Coding.{Coding}
use Rattle.xb_riff.specs.declared.coding.Coding.TheVariants as coding
use Rattle.xb_riff.specs.Floats.{float_sample}

-- how many bytes a sample has
abbrev pub width : Coding → ℕ
width coding.Unsigned8 = 1
width coding.Signed16 = 2
width coding.Signed24 = 3
width coding.Signed32 = 4
width coding.Float32 = 4
width coding.ALaw = 1
width coding.MuLaw = 1

-- of sixteen bits: the lower byte first, and below 0 from 32,768 on
abbrev pub wide_sample : ℕ → ℕ → ℤ
wide_sample lower upper = cast_signed w16 (from_le_bytes w16 (lower ∷ upper ∷ []))

-- of eight bits: counted from 128, and 256 times as much
abbrev pub narrow_sample : ℕ → ℤ
narrow_sample byte = (pos byte -ℤ pos 128) *ℤ pos 256

-- by mu-law the bits of a byte are turned over; three of them count doublings, and four the steps between
abbrev pub magnitude : ℕ → ℕ
magnitude code = (code % 16 * 8 + 132) * 2 ^ (code % 128 / 16) - 132

-- a byte below 128 is below zero
abbrev pub mu_law_sample : ℕ → ℤ
mu_law_sample byte = if nat_lt byte 128 then neg_ℤ (pos (magnitude (255 - byte))) else pos (magnitude (255 - byte))

-- by A-law each second bit of a byte is turned over, from the lowest one on; the steps of the first doubling are those
-- of the second
abbrev pub a_law_magnitude : ℕ → ℕ
a_law_magnitude code =
    if code % 128 / 16 == 0 then code % 16 * 16 + 8 else (code % 16 * 16 + 264) * 2 ^ (code % 128 / 16 - 1)

abbrev pub a_law_sample : ℕ → ℤ
a_law_sample byte =
    if nat_lt byte 128 then neg_ℤ (pos (a_law_magnitude (bit_xor byte 85)))
    else pos (a_law_magnitude (bit_xor byte 85))

-- the four bytes of a float, the lowest one first
abbrev pub float_bits : List ℕ → ℕ
float_bits bytes =
    from_le_bytes w32
    (slice_index_or bytes 0 0 ∷ slice_index_or bytes 1 0 ∷ slice_index_or bytes 2 0 ∷ slice_index_or bytes 3 0 ∷ [])

-- the sample that bytes begin with; of 24 bits and of 32 it is the highest 16
abbrev pub sample_at : Coding → List ℕ → ℤ
sample_at coding.Unsigned8 bytes = narrow_sample (slice_index_or bytes 0 0)
sample_at coding.Signed16 bytes = wide_sample (slice_index_or bytes 0 0) (slice_index_or bytes 1 0)
sample_at coding.Signed24 bytes = wide_sample (slice_index_or bytes 1 0) (slice_index_or bytes 2 0)
sample_at coding.Signed32 bytes = wide_sample (slice_index_or bytes 2 0) (slice_index_or bytes 3 0)
sample_at coding.Float32 bytes = float_sample (float_bits bytes)
sample_at coding.ALaw bytes = a_law_sample (slice_index_or bytes 0 0)
sample_at coding.MuLaw bytes = mu_law_sample (slice_index_or bytes 0 0)
