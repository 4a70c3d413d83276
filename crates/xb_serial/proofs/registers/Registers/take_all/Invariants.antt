use Rattle.std.proofs.Common.{◌++◌, List, take}
use Rattle.xb_model.specs.declared.on.On.{On}
use Rattle.xb_model.specs.declared.plan.Plan.{Plan}
use Rattle.xb_model.specs.declared.signal.Signal.{Signal}
use Rattle.xb_model.specs.OnLines.{on_line}
use Rattle.xb_serial.specs.Taken.{HasDialled}
use Rattle.xb_serial.proofs.registers.Registers.take_all.Given as goal

abbrev pub invariant-loop-what : goal.invariant-loop-what
invariant-loop-what l = (plan : Plan) (signals : List (On Signal)) → HasDialled plan l.initial.self signals
    → HasDialled plan l.self (signals ++ on_line l.line (take l.what-index l.sent))
