use Rattle.std.proofs.Common.{◌≡◌, drop}
use Rattle.xb_worn.specs.Faults.{preliminary_of}
use Rattle.xb_worn.proofs.fault.preliminary_of.Given as goal

abbrev pub invariant-loop-fault : goal.invariant-loop-fault
invariant-loop-fault l = preliminary_of l.number (drop l.fault-index l.faults) ≡ preliminary_of l.number l.faults
