-- How far the counters of a line go.
use Rattle.std.specs.Prelude.{◌≤◌}
use Rattle.xb_model.specs.declared.limits.TheConstants.{GREATEST_LIMIT}
use Rattle.xb_model.specs.declared.signal.TheConstants.{MANY_BREAKS}
use Rattle.xb_pulse.specs.declared.state.Phase.{Phase}
use Rattle.xb_pulse.specs.declared.state.Phase.TheVariants.{OnHook, BetweenTrains, InBreak, InMake, TimedOut, Closed}

-- no length is over the greatest limit that there is, and no more breaks are counted than tell a
-- train that is too long
abbrev pub IsWithin : Phase → Type 0
IsWithin OnHook = Unit {0}
IsWithin (BetweenTrains total) = total ≤ GREATEST_LIMIT
IsWithin (InBreak total tally) = (total ≤ GREATEST_LIMIT) × (tally.breaks ≤ MANY_BREAKS)
IsWithin (InMake total tally) = (total ≤ GREATEST_LIMIT) × (tally.breaks ≤ MANY_BREAKS)
IsWithin (TimedOut total) = total ≤ GREATEST_LIMIT
IsWithin Closed = Unit {0}
