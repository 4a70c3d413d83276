-- The speed of a dial, and the limits that it fits (rotary dial).
use Rattle.std.specs.Prelude.{ℕ, ◌<◌, ◌≤◌}
use Rattle.xb_model.specs.declared.limits.Limits.{Limits}
use Rattle.xb_model.specs.declared.row.TheConstants.{GREATEST_MS}
use Rattle.xb_model.specs.LawfulLimits.{IsLawful}
use Rattle.xb_calls.specs.declared.speed.Speed.{Speed}
use Rattle.xb_calls.specs.declared.speed.SpeedFault.{SpeedFault}
use Rattle.xb_calls.specs.declared.speed.SpeedFault.TheVariants as fault

abbrev pub speed_of : ℕ → ℕ → ℕ → ℕ → ℕ → Speed
speed_of break_ms make_ms pause_ms seize_ms hang_up_ms = record {
  break_ms = break_ms;
  make_ms = make_ms;
  pause_ms = pause_ms;
  seize_ms = seize_ms;
  hang_up_ms = hang_up_ms;
}

-- the standard speeds
abbrev pub ten_pulses_a_second : Speed
ten_pulses_a_second = speed_of 60 40 600 500 400

abbrev pub twenty_pulses_a_second : Speed
twenty_pulses_a_second = speed_of 30 20 600 500 400

-- a break is a pulse
abbrev pub BreakFits : Limits → Speed → Type 0
BreakFits limits speed = (limits.pulse_min ≤ speed.break_ms) × (speed.break_ms ≤ limits.pulse_max)

-- a make between two breaks keeps them apart, and ends no digit
abbrev pub MakeFits : Limits → Speed → Type 0
MakeFits limits speed = (limits.make_min ≤ speed.make_ms) × (speed.make_ms < limits.pause)

-- the make after a digit ends it, and times nothing out
abbrev pub PauseFits : Limits → Speed → Type 0
PauseFits limits speed = (limits.pause ≤ speed.pause_ms) × (speed.pause_ms < limits.timeout)

-- the first make lasts, and times nothing out
abbrev pub SeizeFits : Limits → Speed → Type 0
SeizeFits limits speed = (0 < speed.seize_ms) × (speed.seize_ms < limits.timeout)

-- the break between two calls releases the line, and may stand in one row
abbrev pub HangUpFits : Limits → Speed → Type 0
HangUpFits limits speed = (limits.release ≤ speed.hang_up_ms) × (speed.hang_up_ms ≤ GREATEST_MS)

-- the speed fits the limits
pub record Fits (limits : Limits) (speed : Speed) : Type 0 where
  pub break_fits : BreakFits limits speed
  pub make_fits : MakeFits limits speed
  pub pause_fits : PauseFits limits speed
  pub seize_fits : SeizeFits limits speed
  pub hang_up_fits : HangUpFits limits speed

-- it fits some lawful limits
abbrev pub FitsSome : Speed → Type 0
FitsSome speed = (limits : Limits) × IsLawful limits × Fits limits speed

-- of break, make, pause, seizing make and hang-up this is the first that does not fit
abbrev pub IsFirstMisfit : Limits → Speed → SpeedFault → Type 0
IsFirstMisfit limits speed fault.Break = ¬ BreakFits limits speed
IsFirstMisfit limits speed fault.Make = BreakFits limits speed × ¬ MakeFits limits speed
IsFirstMisfit limits speed fault.Pause =
    BreakFits limits speed × MakeFits limits speed × ¬ PauseFits limits speed
IsFirstMisfit limits speed fault.Seize =
    BreakFits limits speed × MakeFits limits speed × PauseFits limits speed × ¬ SeizeFits limits speed
IsFirstMisfit limits speed fault.HangUp =
    BreakFits limits speed × MakeFits limits speed × PauseFits limits speed × SeizeFits limits speed
    × ¬ HangUpFits limits speed
