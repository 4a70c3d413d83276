-- The samples that floats of 32 bits write (IEEE 754).
use Rattle.std.specs.Prelude.{ℕ, ◌+◌, ◌-◌, ◌*◌, ◌/◌, ◌%◌, ◌^◌, ◌==◌, min, if◌then◌else◌, nat_lt, ℤ, pos, neg_ℤ}

-- a sign, then eight bits of an exponent, and 23 of a fraction, which stand after a one
abbrev pub float_exponent : ℕ → ℕ
float_exponent bits = bits / 2 ^ 23 % 2 ^ 8

abbrev pub float_significand : ℕ → ℕ
float_significand bits = 2 ^ 23 + bits % 2 ^ 23

-- how large the number is, in units of 2 to the power of -149; the least numbers have no one before their fraction
abbrev pub float_size : ℕ → ℕ
float_size bits =
    if float_exponent bits == 0 then bits % 2 ^ 23 else float_significand bits * 2 ^ (float_exponent bits - 1)

-- the nearest whole number to 32,768 times as much, where half goes up, and no more than 32,768
abbrev pub float_magnitude : ℕ → ℕ
float_magnitude bits = min 32768 ((float_size bits + 2 ^ 133) / 2 ^ 134)

-- what is more than infinite is no number, and silence; the greatest sample is 32,767
abbrev pub float_sample : ℕ → ℤ
float_sample bits =
    if nat_lt 2139095040 (bits % 2 ^ 31) then pos 0
    else (if nat_lt bits 2147483648 then pos (min 32767 (float_magnitude bits)) else neg_ℤ (pos (float_magnitude bits)))
