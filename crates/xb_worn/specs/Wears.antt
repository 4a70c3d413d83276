-- How a worn dial sends a pulse: it slows down in the digit, and its times swing.
use Rattle.std.specs.Prelude.{ℕ, ◌+◌, ◌*◌, ◌/◌, ℤ, pos, negsuc, ◌+ℤ◌}
use Rattle.xb_chance.specs.Swings.{swing}
use Rattle.xb_worn.specs.declared.pulse.SentPulse.{SentPulse}
use Rattle.xb_worn.specs.declared.wear.Wear.{Wear}
use Rattle.xb_worn.specs.SentCalls.{pulse_of}

-- a time that is longer by a percentage for each of so many pulses before it, rounded down
abbrev pub slowed : ℕ → ℕ → ℕ → ℕ
slowed percent before ms = ms * (100 + percent * before) / 100

-- a time, and 0 for one below it: no row has either
abbrev pub above_zero : ℤ → ℕ
above_zero (pos ms) = ms
above_zero (negsuc n) = 0

-- time n of a digit, which was to last so many ms: it is slowed, and draw n makes it longer or shorter
abbrev pub worn_time : Wear → ℕ → ℕ → ℕ → ℕ → ℕ
worn_time wear state n before ms =
    above_zero (pos (slowed wear.slow_percent before ms) +ℤ swing wear.jitter_ms state n)

-- a pulse with so many before it in its digit. The times of a digit count from 0: the break of its first pulse, the
-- make after it, the break of the second, and so on
abbrev pub worn_pulse : Wear → ℕ → ℕ → SentPulse
worn_pulse wear state before =
    pulse_of (worn_time wear state (2 * before) before wear.speed.break_ms)
    (worn_time wear state (2 * before + 1) before wear.speed.make_ms)
