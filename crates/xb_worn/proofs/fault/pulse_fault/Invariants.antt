use Rattle.std.proofs.Common.{◌≡◌, drop}
use Rattle.xb_worn.specs.Faults.{pulse_fault}
use Rattle.xb_worn.proofs.fault.pulse_fault.Given as goal

abbrev pub invariant-loop-fault : goal.invariant-loop-fault
invariant-loop-fault l = pulse_fault l.place (drop l.fault-index l.faults) ≡ pulse_fault l.place l.faults
