-- The figures of pulses, each a quotient of ticks that is rounded to a tenth once, a half up.
use Rattle.std.specs.Prelude.{ℕ, ◌-◌, ◌*◌, ◌^◌, Option, None, nat_le, nat_lt, if◌then◌else◌}
use Rattle.xb_contact.specs.declared.scale.Scale.{Scale}
use Rattle.xb_heard.specs.Figures.{quotient_of, share_by, speed_by}
use Rattle.xb_turns.specs.declared.figures.Drift.{Drift}
use Rattle.xb_turns.specs.declared.figures.TheConstants.{MANY_PULSES}
use Rattle.xb_turns.specs.declared.train.Train.{Train}

-- from the first break to the last
abbrev pub whole_of : Train → ℕ
whole_of train = train.last - train.first

-- pulses a second: as many periods as lie between the first break and the last, by their time
abbrev pub speed_of : Scale → Train → Option ℕ
speed_of scale train =
    if nat_le MANY_PULSES train.pulses then None
    else speed_by ((train.pulses - 1) * scale.ticks) (whole_of train * scale.ms)

-- how much of this time is break, in percent
abbrev pub share_of : Train → Option ℕ
share_of train = share_by train.broken (whole_of train)

-- how much longer the last period is than the first, in percent of the first; below 0 where it is shorter
abbrev pub difference : Train → ℕ
difference train =
    if nat_lt train.last_period train.first_period then train.first_period - train.last_period
    else train.last_period - train.first_period

abbrev pub drift_of : Train → Drift
drift_of train = record {
  is_below = nat_lt train.last_period train.first_period;
  tenths = if nat_lt train.pulses 3 then None else quotient_of (100 * difference train) train.first_period;
}

-- so many ticks in ms
abbrev pub tenths_of_ms : Scale → ℕ → Option ℕ
tenths_of_ms scale ticks =
    if nat_lt (ticks * scale.ms) (2 ^ 64) then quotient_of (ticks * scale.ms) scale.ticks else None
