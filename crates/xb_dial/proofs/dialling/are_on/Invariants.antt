use Rattle.std.proofs.Common.{◌≡◌, drop}
use Rattle.xb_dial.specs.Printed.{are_on}
use Rattle.xb_dial.proofs.dialling.are_on.Given as goal

abbrev pub invariant-loop-call : goal.invariant-loop-call
invariant-loop-call l = are_on l.line (drop l.call-index l.calls) ≡ are_on l.line l.calls
