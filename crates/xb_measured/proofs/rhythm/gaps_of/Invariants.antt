use Rattle.std.proofs.Common.{◌≡◌, ◌++◌, drop, None}
use Rattle.xb_measured.specs.Rhythms.{gaps_after}
use Rattle.xb_measured.proofs.rhythm.gaps_of.Given as goal

abbrev pub invariant-loop-key : goal.invariant-loop-key
invariant-loop-key l = l.times.items ++ gaps_after l.before (drop l.key-index l.keys) ≡ gaps_after None l.keys
