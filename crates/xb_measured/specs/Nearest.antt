-- The tenths of a level by the decibels that it has.
use Rattle.std.specs.Prelude.{ℕ, ◌+◌, ◌*◌, ◌^◌, ◌<◌, ◌≤◌}
use Rattle.xb_measured.specs.Levels.{tenths_of}

-- A level of A * A has 3.14 dBm0 more than 20 log10 (A / 32,767), and n tenths are (n - 872) / 10 dBm0. So n is the
-- nearest number of tenths where the level is 32,767 * 32,767 times 10^((n - 903.9) / 100) at least, and below that of
-- n + 1. Of whole numbers alone it is the same by thousandth powers.
pub record IsNearest (level n : ℕ) : Type 0 where
  pub least : 32767 ^ 2000 * 10 ^ (10 * n) ≤ level ^ 1000 * 10 ^ 9039
  pub below : level ^ 1000 * 10 ^ 9039 < 32767 ^ 2000 * 10 ^ (10 * (n + 1))

-- the tenths of each level are the nearest; the ear measures levels below 2^40
abbrev pub TenthsAreNearest : Type 0
TenthsAreNearest = (level : ℕ) → 0 < level → level < 10 ^ 13 → IsNearest level (tenths_of level)
