-- How far from 0 a sample has to be.
use Rattle.std.specs.Prelude.{ℕ, ◌≤◌}

-- in parts of a hundred
pub record Percent : Type 0 where
  pub percent : ℕ

abbrev pub percent_of : ℕ → Percent
percent_of percent = record { percent = percent }

pub record IsPercent (percent : ℕ) : Type 0 where
  pub some : 1 ≤ percent
  pub most : percent ≤ 99
