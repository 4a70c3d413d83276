use Rattle.std.proofs.Common.{◌≡◌, drop}
use Rattle.std.specs.List.{list_any}
use Rattle.xb_worn.specs.Faults.{stands_in}
use Rattle.xb_worn.proofs.fault.touch.Given as goal

abbrev pub invariant-loop-fault : goal.invariant-loop-fault
invariant-loop-fault l =
    list_any (stands_in l.number) (drop l.fault-index l.faults) ≡ list_any (stands_in l.number) l.faults
