-- The faults of limits, and the number by which a route table tells each.
use Rattle.std.specs.Prelude.{ℕ, Option, Result, slice_get}
use Rattle.std.specs.Result.{result_map_both}
use Rattle.xb_routes.specs.declared.fault.LimitFault.{LimitFault}
use Rattle.xb_routes.specs.declared.fault.LimitFault.TheVariants as broken
use Rattle.xb_routes.specs.declared.fault.RouteFault.{RouteFault}
use Rattle.xb_routes.specs.declared.fault.RouteFault.TheVariants as fault
use Rattle.xb_routes.specs.declared.fault.TheConstants.{LIMIT_FAULTS}

abbrev pub limit_number : LimitFault → ℕ
limit_number broken.NotTable = 0
limit_number broken.PulseMin = 1
limit_number broken.PulseMax = 2
limit_number broken.MakeMin = 3
limit_number broken.Pause = 4
limit_number broken.Release = 5
limit_number broken.Timeout = 6
limit_number broken.PulseMinOverPulseMax = 7
limit_number broken.PulseMaxNotUnderRelease = 8
limit_number broken.MakeMinOverPause = 9
limit_number broken.PauseNotUnderTimeout = 10

-- the fault with a number, if there is one
abbrev pub limit_fault : ℕ → Option LimitFault
limit_fault number = slice_get LIMIT_FAULTS number

-- a fault of limits, as one of the table
abbrev pub of_limits : LimitFault → RouteFault
of_limits rule = fault.Limits (limit_number rule)

abbrev pub told : {A : Type 0} → Result A LimitFault → Result A RouteFault
told limits = result_map_both (λ l. l) of_limits limits
