-- What makes the table a sine.
use Rattle.std.specs.Prelude.{◌≡◌, ℕ, ◌+◌, ◌%◌, ◌^◌, ◌<◌, ◌≤◌, length, ℤ, pos, ◌+ℤ◌, ◌-ℤ◌, ◌*ℤ◌, ◌<ℤ◌, unsigned_abs}
use Rattle.xb_sound.specs.Sines.{sine_at, sine_table}

-- a quarter of a period ahead
abbrev pub cosine_at : ℕ → ℤ
cosine_at place = sine_at ((place + 20) % 80)

-- it rises from 0 through a quarter of the period; sine and cosine lie on a circle of radius 10,000, to
-- half a unit; and they add as sines do, to one unit and a half
pub record IsSine : Type 0 where
  pub period : length sine_table ≡ 80
  pub start : sine_at 0 ≡ pos 0
  pub rises : (n : ℕ) → n < 20 → sine_at n <ℤ sine_at (n + 1)
  pub circle : (n : ℕ) → n < 80 →
      unsigned_abs (sine_at n *ℤ sine_at n +ℤ cosine_at n *ℤ cosine_at n -ℤ pos (10 ^ 8)) ≤ 10 ^ 4
  pub adds : (m n : ℕ) → m < 80 → n < 80 →
      unsigned_abs (pos (10 ^ 4) *ℤ sine_at ((m + n) % 80)
      -ℤ (sine_at m *ℤ cosine_at n +ℤ cosine_at m *ℤ sine_at n)) ≤ 15000
