-- The words of splitmix64, of a state of 64 bits.
use Rattle.std.specs.Prelude.{ℕ, ◌+◌, ◌*◌, ◌/◌, ◌%◌, ◌^◌, bit_xor}

-- the state after so many steps
abbrev pub state_after : ℕ → ℕ → ℕ
state_after state steps = (state + steps * 0x9e3779b97f4a7c15) % 2 ^ 64

-- a word with its high bits folded down by so many places, times a factor
abbrev pub folded : ℕ → ℕ → ℕ → ℕ
folded word places factor = bit_xor word (word / 2 ^ places) * factor % 2 ^ 64

abbrev pub word_of : ℕ → ℕ
word_of state =
    let twice : ℕ = folded (folded state 30 0xbf58476d1ce4e5b9) 27 0x94d049bb133111eb in bit_xor twice (twice / 2 ^ 31)
