-- From ticks to ms.
use Rattle.std.specs.Prelude.{ℕ, ◌+◌, ◌-◌, ◌*◌, ◌/◌, ◌<◌, ◌^◌, List, [], ◌∷◌}
use Rattle.xb_contact.specs.declared.hold.Hold.{Hold}
use Rattle.xb_contact.specs.Holds.{hold_of}
use Rattle.xb_contact.specs.declared.scale.Scale.{Scale}

-- so many ms are so many ticks
abbrev pub scale_by : ℕ → ℕ → Scale
scale_by ms ticks = record { ms = ms; ticks = ticks }

-- the time of a tick in ms, to the nearest, a half rounded up
abbrev pub ms_at : Scale → ℕ → ℕ
ms_at scale tick = (tick * scale.ms + scale.ticks / 2) / scale.ticks

-- it can be counted
abbrev pub CanCount : Scale → ℕ → Type 0
CanCount scale tick = tick * scale.ms + scale.ticks < 2 ^ 64 - 1

-- a hold in ms that begins at this tick: the times of its ends are rounded, and then subtracted
abbrev pub rounded_hold : Scale → ℕ → Hold → Hold
rounded_hold scale at hold = hold_of hold.level (ms_at scale (at + hold.ticks) - ms_at scale at)

-- holds in ms, from this tick on
abbrev pub rounded : Scale → ℕ → List Hold → List Hold
rounded scale at [] = []
rounded scale at (hold ∷ rest) = rounded_hold scale at hold ∷ rounded scale (at + hold.ticks) rest
