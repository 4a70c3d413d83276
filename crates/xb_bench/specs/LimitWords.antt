-- The limits that words name.
use Rattle.std.specs.Prelude.{ℕ, ◌-◌, ◌^◌, nat_lt, ◌||◌, ◌==◌, List, [], ◌∷◌, Option, Some, None, bytes_eq, codes, is_some, option_map, unwrap_or, Result, Ok, Err, if◌then◌else◌}
use Rattle.std.specs.Option.{option_and_then}
use Rattle.clap.specs.Walk.{Text}
use Rattle.xb_contact.specs.Numbers.{number_of}
use Rattle.xb_model.specs.declared.limits.Limits.{Limits}
use Rattle.xb_model.specs.declared.limits.TheConstants.{GREATEST_LIMIT}
use Rattle.xb_model.specs.LawfulLimits.{standard_limits}
use Rattle.xb_routes.specs.declared.fault.LimitFault.{LimitFault}
use Rattle.xb_routes.specs.PlanAndLimits.{limits_by}
use Rattle.xb_text.specs.Pieces.{cut_at, pieces}
use Rattle.xb_bench.specs.declared.limits.Limit.{Limit}
use Rattle.xb_bench.specs.declared.limits.Limit.TheVariants.{PulseMin, PulseMax, MakeMin, Pause, Release, Timeout}
use Rattle.xb_bench.specs.declared.limits.SaidLimits.{SaidLimits}

-- the limit of a name
abbrev pub limit_named : Text → Option Limit
limit_named name =
    if bytes_eq name (codes "pulse_min") then Some PulseMin
    else (if bytes_eq name (codes "pulse_max") then Some PulseMax
    else (if bytes_eq name (codes "make_min") then Some MakeMin
    else (if bytes_eq name (codes "pause") then Some Pause
    else (if bytes_eq name (codes "release") then Some Release
    else (if bytes_eq name (codes "timeout") then Some Timeout else None)))))

-- ms in digits alone, from 1 to the greatest limit
abbrev pub up_to_greatest : ℕ → Option ℕ
up_to_greatest ms = if ms == 0 || nat_lt GREATEST_LIMIT ms then None else Some ms

abbrev pub ms_said : Text → Option ℕ
ms_said digits = option_and_then up_to_greatest (number_of digits)

-- what is said of a limit, and with so many ms of it
abbrev pub none_said : SaidLimits
none_said =
    record { pulse_min = None; pulse_max = None; make_min = None; pause = None; release = None; timeout = None }

abbrev pub said_of : SaidLimits → Limit → Option ℕ
said_of said PulseMin = said.pulse_min
said_of said PulseMax = said.pulse_max
said_of said MakeMin = said.make_min
said_of said Pause = said.pause
said_of said Release = said.release
said_of said Timeout = said.timeout

abbrev pub with_limit : SaidLimits → Limit → ℕ → SaidLimits
with_limit said PulseMin ms = record said { pulse_min = Some ms }
with_limit said PulseMax ms = record said { pulse_max = Some ms }
with_limit said MakeMin ms = record said { make_min = Some ms }
with_limit said Pause ms = record said { pause = Some ms }
with_limit said Release ms = record said { release = Some ms }
with_limit said Timeout ms = record said { timeout = Some ms }

-- after a word `NAME=MS`; none where there is no such limit, or it was said
abbrev pub with_once : SaidLimits → Text → Limit → Option SaidLimits
with_once said digits limit =
    if is_some (said_of said limit) then None else option_map (with_limit said limit) (ms_said digits)

abbrev pub with_parts : SaidLimits → Text × Text → Option SaidLimits
with_parts said parts = option_and_then (with_once said parts.1) (limit_named parts.0)

abbrev pub with_word : SaidLimits → Text → Option SaidLimits
with_word said word = option_and_then (with_parts said) (cut_at 61 word)

-- after these words
abbrev pub limits_after : SaidLimits → List Text → Option SaidLimits
limits_after said [] = Some said
limits_after said (word ∷ words) = option_and_then (λ more. limits_after more words) (with_word said word)

-- the limits that are said, and else the standard ones, with a time-out where none is
abbrev pub asked_limits : SaidLimits → ℕ → Limits
asked_limits said timeout = record {
  pulse_min = unwrap_or said.pulse_min standard_limits.pulse_min;
  pulse_max = unwrap_or said.pulse_max standard_limits.pulse_max;
  make_min = unwrap_or said.make_min standard_limits.make_min;
  pause = unwrap_or said.pause standard_limits.pause;
  release = unwrap_or said.release standard_limits.release;
  timeout = unwrap_or said.timeout timeout;
}

-- the standard limits without a time-out, since on the bench no register waits
abbrev pub bench_limits : Limits
bench_limits = record standard_limits { timeout = 2 ^ 32 - 1 }

-- where a route table may have them, with the greatest time-out if none is said, which then is none
abbrev pub limits_by_table : SaidLimits → Result Limits LimitFault → Option Limits
limits_by_table said (Ok limits) = Some (asked_limits said (2 ^ 32 - 1))
limits_by_table said (Err fault) = None

abbrev pub limits_of : SaidLimits → Option Limits
limits_of said = limits_by_table said (limits_by (asked_limits said GREATEST_LIMIT))

abbrev pub limits_said : Option Text → Option Limits
limits_said None = Some bench_limits
limits_said (Some text) = option_and_then limits_of (limits_after none_said (pieces 44 text))
