use Rattle.std.proofs.Common.{◌≡◌, drop}
use Rattle.xb_worn.specs.Faults.{digit_fault}
use Rattle.xb_worn.proofs.fault.digit_fault.Given as goal

abbrev pub invariant-loop-fault : goal.invariant-loop-fault
invariant-loop-fault l = digit_fault l.place (drop l.fault-index l.faults) ≡ digit_fault l.place l.faults
