-- The plan and the limits of a table, by the keys `plan` and `limits` of its text.
use Rattle.std.specs.Prelude.{ℕ, ℤ, pos, negsuc, ◌&&◌, nat_le, nat_lt, if◌then◌else◌, codes, Option, Some, None, option_and_then, Result, Ok, Err}
use Rattle.toml.specs.Data.{Data, Members, as_integer, as_table, get_member}
use Rattle.xb_model.specs.declared.limits.Limits.{Limits}
use Rattle.xb_model.specs.declared.limits.TheConstants.{GREATEST_LIMIT}
use Rattle.xb_model.specs.declared.plan.Plan.{Plan}
use Rattle.xb_model.specs.declared.plan.Plan.TheVariants.{Seven}
use Rattle.xb_model.specs.LawfulLimits.{standard_limits}
use Rattle.xb_model.specs.Plans.{plan_of_digits}
use Rattle.xb_routes.specs.declared.fault.LimitFault.{LimitFault}
use Rattle.xb_routes.specs.declared.fault.LimitFault.TheVariants as broken
use Rattle.xb_routes.specs.Steps.{or_fault}

-- the plan of a number
abbrev pub plan_of_number : ℤ → Option Plan
plan_of_number (pos n) = plan_of_digits n
plan_of_number (negsuc n) = None

-- the plan at the key `plan`: Seven where it is missing
abbrev pub plan_of : Option Data → Option Plan
plan_of None = Some Seven
plan_of (Some value) = option_and_then plan_of_number (as_integer value)

-- a limit, in ms
abbrev pub limit_of_number : ℤ → Option ℕ
limit_of_number (pos n) = if nat_le 1 n && nat_le n GREATEST_LIMIT then Some n else None
limit_of_number (negsuc n) = None

-- the limit at a key, or its default where the key is missing
abbrev pub limit_at : Option Data → ℕ → Option ℕ
limit_at None default = Some default
limit_at (Some value) default = option_and_then limit_of_number (as_integer value)

-- limits that stand in their order, or the first fault of it
abbrev pub in_order : Limits → Result Limits LimitFault
in_order limits =
    if nat_lt limits.pulse_max limits.pulse_min then Err broken.PulseMinOverPulseMax
    else if nat_le limits.release limits.pulse_max then Err broken.PulseMaxNotUnderRelease
    else if nat_lt limits.pause limits.make_min then Err broken.MakeMinOverPause
    else if nat_le limits.timeout limits.pause then Err broken.PauseNotUnderTimeout
    else Ok limits

-- six limits, or the first fault: of one that is missing, then of their order
abbrev pub limits_from : Option ℕ → Option ℕ → Option ℕ → Option ℕ → Option ℕ → Option ℕ
    → Result Limits LimitFault
limits_from pulse_min pulse_max make_min pause release timeout =
    or_fault broken.PulseMin pulse_min (λ pulse_min.
    or_fault broken.PulseMax pulse_max (λ pulse_max.
    or_fault broken.MakeMin make_min (λ make_min.
    or_fault broken.Pause pause (λ pause.
    or_fault broken.Release release (λ release.
    or_fault broken.Timeout timeout (λ timeout.
    in_order (record {
      pulse_min = pulse_min;
      pulse_max = pulse_max;
      make_min = make_min;
      pause = pause;
      release = release;
      timeout = timeout;
    })))))))

-- limits by their numbers, or the first fault
abbrev pub limits_by : Limits → Result Limits LimitFault
limits_by limits = limits_from
    (limit_of_number (pos limits.pulse_min))
    (limit_of_number (pos limits.pulse_max))
    (limit_of_number (pos limits.make_min))
    (limit_of_number (pos limits.pause))
    (limit_of_number (pos limits.release))
    (limit_of_number (pos limits.timeout))

-- the limits of a table with these keys, or the first fault
abbrev pub limits_of_keys : Members → Result Limits LimitFault
limits_of_keys keys = limits_from
    (limit_at (get_member (codes "pulse_min") keys) standard_limits.pulse_min)
    (limit_at (get_member (codes "pulse_max") keys) standard_limits.pulse_max)
    (limit_at (get_member (codes "make_min") keys) standard_limits.make_min)
    (limit_at (get_member (codes "pause") keys) standard_limits.pause)
    (limit_at (get_member (codes "release") keys) standard_limits.release)
    (limit_at (get_member (codes "timeout") keys) standard_limits.timeout)

-- the limits at the key `limits`: the standard ones where it is missing
abbrev pub limits_of : Option Data → Result Limits LimitFault
limits_of None = Ok standard_limits
limits_of (Some value) = or_fault broken.NotTable (as_table value) limits_of_keys
