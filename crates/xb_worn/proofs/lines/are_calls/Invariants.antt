use Rattle.std.proofs.Common.{take}
use Rattle.xb_calls.specs.Calls.{AreCalls}
use Rattle.xb_worn.proofs.lines.are_calls.Given as goal

abbrev pub invariant-loop-call : goal.invariant-loop-call
invariant-loop-call l = AreCalls (take l.call-index l.calls)
