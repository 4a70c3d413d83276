-- What lies beside the six frequencies: hum and other steady noise is there in the gaps too.
use Rattle.std.specs.Prelude.{ℕ, ◌+◌, ◌-◌, ◌/◌, ◌==◌, if◌then◌else◌, max, min}
use Rattle.xb_ear.specs.declared.levels.Levels.{Levels}
use Rattle.xb_ear.specs.declared.hum.TheConstants.{STEADY_WINDOWS}
use Rattle.xb_ear.specs.Pairs.{all_levels}

-- the power of a window beside the six
abbrev pub beside : Levels → ℕ
beside levels = levels.power - all_levels levels

-- the least that lay beside of late, with one window more: it grows by a part of itself with each, and doubles in 57 s;
-- 0 is before the first window, and no window counts for less than 1
abbrev pub lessened : ℕ → ℕ → ℕ
lessened least now = max 1 (if least == 0 then now else min now (least + least / STEADY_WINDOWS + 1))
