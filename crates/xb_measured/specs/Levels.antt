-- Levels in dBm0. A sine of 32,767 has 3.14 dBm0, so a level of A * A has 20 log10 (A / 32,767) + 3.14.
use Rattle.std.specs.Prelude.{ℕ, ◌+◌, ◌-◌, ◌*◌, ◌/◌, ◌%◌, ◌^◌, List, Bool, ◌++◌, codes, decimal, filter, if◌then◌else◌, length, map, nat_le, nat_lt}
use Rattle.std.specs.List.{range_with_len}

-- powers of ten, from 10 to 10^12
abbrev pub powers_of_ten : List ℕ
powers_of_ten = map (λ n. 10 ^ n) (range_with_len 1 12)

-- how many of some bounds a number has reached
abbrev pub count_up_to : ℕ → List ℕ → ℕ
count_up_to number bounds = length (filter (λ bound. nat_le bound number) bounds)

-- a level of 10^12 to 10^13 is nearer to 328 + k tenths of a dBm0 than to the tenth before: it is 32,767 * 32,767 times
-- 10^((k + 296.1) / 100) at least, or the thousandth power of it is that of this
unfoldable pub has_reached : ℕ → ℕ → Bool
has_reached level k = nat_le (32767 ^ 2000 * 10 ^ (10 * k + 2961)) (level ^ 1000)

-- a level in tenths of a dB, of which 872 are 0 dBm0: a hundred for each power of ten, and those of its last one
abbrev pub tenths_with : ℕ → ℕ → ℕ
tenths_with level powers =
    100 * powers + length (filter (has_reached (level * 10 ^ (12 - powers))) (range_with_len 1 100))

abbrev pub tenths_of : ℕ → ℕ
tenths_of level = tenths_with level (count_up_to level powers_of_ten)

-- a number of tenths with one decimal
abbrev pub decimal_tenths : ℕ → List ℕ
decimal_tenths tenths = decimal (tenths / 10) ++ (codes "." ++ decimal (tenths % 10))

-- what tenths are over others, with a sign below them
abbrev pub tenths_text : ℕ → ℕ → List ℕ
tenths_text over under =
    if nat_lt over under then codes "-" ++ decimal_tenths (under - over) else decimal_tenths (over - under)
