use Rattle.std.proofs.Common.{◌≡◌, replicate}
use Rattle.xb_loop.specs.Counts.{nothing_seen}
use Rattle.xb_loop.proofs.counts.EdgeCounts.new.Given as goal

abbrev pub invariant-loop-wire : goal.invariant-loop-wire
invariant-loop-wire l = l.seen.items ≡ replicate l._wire nothing_seen
