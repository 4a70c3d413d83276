-- The figures of a key.
use Rattle.std.specs.Prelude.{ℕ, ◌+◌, ◌-◌, ◌*◌, ◌/◌, ◌^◌, min, Option, Some, None}
use Rattle.xb_measured.specs.declared.heard.Heard.{Heard}
use Rattle.xb_measured.specs.declared.figures.Figures.{Figures}
use Rattle.xb_measured.specs.Levels.{tenths_of}
use Rattle.xb_measured.specs.Meanings.{meaning_of}

-- so many samples in ms, rounded down; counting stops at the greatest number that there is
abbrev pub ms_of : ℕ → ℕ
ms_of samples = min (samples / 8) (2 ^ 64 - 1)

-- a window sees a key where 60 of its 80 samples lie in it, in the mean: so a key begins 20 samples after the beginning
-- of its first window
abbrev pub start_ms : Heard → ℕ
start_ms key = ms_of (20 * key.first + 20)

-- and ends 20 samples before the end of its last one
abbrev pub end_ms : Heard → ℕ
end_ms key = ms_of (20 * key.past + 40)

-- from its beginning to its end
abbrev pub length_ms : Heard → ℕ
length_ms key = ms_of (20 * (key.past - key.first) + 20)

-- from the end of the last key to the beginning of this one
abbrev pub gap_ms : Option Heard → Heard → Option ℕ
gap_ms None key = None
gap_ms (Some before) key = Some (ms_of (20 * (key.first - before.past) - 20))

-- a hole is as long as a gap of as many windows: 20 samples for each but the first
abbrev pub hole_ms : Heard → ℕ
hole_ms key = ms_of (20 * key.blank)

-- the figures of a key, by the last key before it
abbrev pub figures_of : Option Heard → Heard → Figures
figures_of before key = record {
  pair = key.sight.pair;
  meaning = meaning_of key.sight.pair;
  start_ms = start_ms key;
  length_ms = length_ms key;
  low_hz = key.low.hz;
  high_hz = key.high.hz;
  low = tenths_of key.low.level;
  high = tenths_of key.high.level;
  gap_ms = gap_ms before key;
  onsets = key.onsets;
  hole_ms = hole_ms key;
}
