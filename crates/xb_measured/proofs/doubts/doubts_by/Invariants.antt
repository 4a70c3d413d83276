use Rattle.std.proofs.Common.{◌≡◌, ◌++◌, drop, None}
use Rattle.xb_measured.specs.Doubts.{doubts_after}
use Rattle.xb_measured.proofs.doubts.doubts_by.Given as goal

abbrev pub invariant-loop-index : goal.invariant-loop-index
invariant-loop-index l =
    l.doubts.items ++ doubts_after l.rhythm l.index l.before (drop l.index l.keys) ≡ doubts_after l.rhythm 0 None l.keys
