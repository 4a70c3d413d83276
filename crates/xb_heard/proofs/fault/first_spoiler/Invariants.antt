use Rattle.std.proofs.Common.{◌≡◌, ◌≤◌, drop}
use Rattle.xb_heard.specs.Faults.{first_spoiler}
use Rattle.xb_heard.proofs.fault.first_spoiler.Given as goal

abbrev pub invariant-loop-run : goal.invariant-loop-run
invariant-loop-run l = record {
  counted : l.breaks ≤ l.run-index;
  rest : first_spoiler l.limits l.breaks (drop l.run-index l.train) ≡ first_spoiler l.limits 0 l.train;
}
