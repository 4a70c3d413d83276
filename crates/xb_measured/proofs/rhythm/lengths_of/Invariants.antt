use Rattle.std.proofs.Common.{◌≡◌, ◌++◌, drop}
use Rattle.xb_measured.specs.Rhythms.{lengths_of}
use Rattle.xb_measured.proofs.rhythm.lengths_of.Given as goal

abbrev pub invariant-loop-key : goal.invariant-loop-key
invariant-loop-key l = l.times.items ++ lengths_of (drop l.key-index l.keys) ≡ lengths_of l.keys
