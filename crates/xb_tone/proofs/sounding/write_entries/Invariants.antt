use Rattle.std.proofs.Common.{length}
use Rattle.xb_tone.proofs.Follows.{IsSoFar}
use Rattle.xb_tone.proofs.sounding.write_entries.Given as goal

abbrev pub invariant-loop-entry : goal.invariant-loop-entry
invariant-loop-entry g l =
    IsSoFar l.cadence l.entries l.left (g.W.Write.contents l.fn.out) (g.W.Write.contents l.out)

abbrev pub decreases-loop-entry : goal.decreases-loop-entry
decreases-loop-entry g l = length l.left
