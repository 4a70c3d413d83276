-- Whether the lines of a deck ring.
use Rattle.std.specs.Prelude.{nat_le, List, Bool}
use Rattle.xb_model.specs.declared.limits.Limits.{Limits}
use Rattle.xb_model.specs.Rows.{LoopRow}
use Rattle.xb_doubts.specs.declared.counted.TheConstants.{LEAST_RINGS}
use Rattle.xb_doubts.specs.Attempts.{rings}

-- ten or more attempts are as ringing makes them
abbrev pub is_ringing : Limits → List LoopRow → Bool
is_ringing limits rows = nat_le LEAST_RINGS (rings limits rows)
