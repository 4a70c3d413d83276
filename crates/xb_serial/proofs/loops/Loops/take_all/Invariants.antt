use Rattle.std.proofs.Common.{◌++◌, List, take}
use Rattle.xb_model.specs.declared.limits.Limits.{Limits}
use Rattle.xb_model.specs.declared.plan.Plan.{Plan}
use Rattle.xb_model.specs.Rows.{LoopRow}
use Rattle.xb_serial.specs.Taken.{HasHeard}
use Rattle.xb_serial.proofs.loops.Loops.take_all.Given as goal

abbrev pub invariant-loop-row : goal.invariant-loop-row
invariant-loop-row l = (limits : Limits) (plan : Plan) (earlier : List LoopRow) → HasHeard limits plan l.initial.self earlier
    → HasHeard limits plan l.self (earlier ++ take l.row-index l.rows)
