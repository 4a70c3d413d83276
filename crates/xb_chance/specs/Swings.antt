-- Whole numbers that swing about 0, one after the other.
use Rattle.std.specs.Prelude.{ℕ, ◌≡◌, ◌+◌, ◌*◌, ◌%◌, ℤ, pos, ◌-ℤ◌}
use Rattle.xb_chance.specs.Words.{state_after, word_of}

-- number n after a state, from 0: the word of the state after n + 1 steps, as a number from -peak to peak
abbrev pub swing : ℕ → ℕ → ℕ → ℤ
swing peak state n = pos (word_of (state_after state (n + 1)) % (2 * peak + 1)) -ℤ pos peak

-- after m steps they go on: what begins there begins where the earlier ones have ended
abbrev pub SwingsGoOn : Type 0
SwingsGoOn = (peak seed m n : ℕ) → swing peak (state_after seed m) n ≡ swing peak seed (m + n)
