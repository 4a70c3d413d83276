-- Levels of tones, in tenths of a dBm0, and their amplitudes.
use Rattle.std.specs.Prelude.{ℕ, ◌≡◌, ◌+◌, ◌*◌, ◌-◌, ◌^◌, List, [], ◌∷◌, Bool, true, false, ◌&&◌, Option, Some, None, if◌then◌else◌, nat_le, nat_lt, slice_index_or, ℤ, pos, negsuc, ◌+ℤ◌, unsigned_abs}
use Rattle.xb_signal.specs.declared.level.TheConstants.{AMPLITUDES}

-- of -40.0 dBm0, -39.9 and so on to 0.0
unfoldable pub amplitudes : List ℕ
amplitudes = AMPLITUDES

abbrev pub table_at : ℕ → ℕ
table_at place = slice_index_or amplitudes place 0

-- whether a level is in the table, by how many tenths it is above -40.0
abbrev pub is_in_table : ℤ → Bool
is_in_table (pos above) = nat_le above 400
is_in_table (negsuc below) = false

abbrev pub amplitude_at : ℤ → Option ℕ
amplitude_at above = if is_in_table above then Some (table_at (unsigned_abs above)) else None

-- the amplitude of a level, and so many tenths above it, where it is from -40.0 to 0.0
abbrev pub amplitude_of : ℤ → ℤ → Option ℕ
amplitude_of level above = amplitude_at ((level +ℤ above) +ℤ pos 400)

-- an amplitude is 10,000 times ten to the power (tenths + 72) / 200, rounded; to the power of 200 all are whole
abbrev is_rounded : ℕ → ℕ → Bool
is_rounded place amplitude =
    nat_le ((2 * amplitude - 1) ^ 200 * 10 ^ 328) (20000 ^ 200 * 10 ^ place)
    && nat_lt (20000 ^ 200 * 10 ^ place) ((2 * amplitude + 1) ^ 200 * 10 ^ 328)

unfoldable pub are_rounded : ℕ → List ℕ → Bool
are_rounded place [] = true
are_rounded place (amplitude ∷ louder) = is_rounded place amplitude && are_rounded (place + 1) louder

abbrev pub AmplitudesAreRounded : Type 0
AmplitudesAreRounded = are_rounded 0 amplitudes ≡ true
