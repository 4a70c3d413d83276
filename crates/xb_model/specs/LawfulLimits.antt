-- The limits by which pulses are judged, each in ms.
use Rattle.std.specs.Prelude.{ℕ, ◌<◌, ◌≤◌}
use Rattle.xb_model.specs.declared.limits.Limits.{Limits}
use Rattle.xb_model.specs.declared.limits.TheConstants.{GREATEST_LIMIT}

-- the limits of the profile
abbrev pub standard_limits : Limits
standard_limits = record {
  pulse_min = 20;
  pulse_max = 119;
  make_min = 15;
  pause = 180;
  release = 300;
  timeout = 20000;
}

abbrev pub IsLimit : ℕ → Type 0
IsLimit limit = (0 < limit) × (limit ≤ GREATEST_LIMIT)

-- each limit is in range
pub record AreLimits (limits : Limits) : Type 0 where
  pub pulse_min : IsLimit limits.pulse_min
  pub pulse_max : IsLimit limits.pulse_max
  pub make_min : IsLimit limits.make_min
  pub pause : IsLimit limits.pause
  pub release : IsLimit limits.release
  pub timeout : IsLimit limits.timeout

-- each limit is in range, and they stand in their order
pub record IsLawful (limits : Limits) : Type 0 where
  pub each : AreLimits limits
  pub pulses_first : limits.pulse_min ≤ limits.pulse_max
  pub pulses_under : limits.pulse_max < limits.release
  pub makes_under : limits.make_min ≤ limits.pause
  pub pause_under : limits.pause < limits.timeout
