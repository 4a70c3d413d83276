use Rattle.std.proofs.Common.{◌≡◌, ◌++◌, drop}
use Rattle.xb_loop.specs.Listing.{edges_of}
use Rattle.xb_loop.proofs.listing.edges_of.Given as goal

abbrev pub invariant-loop-seen : goal.invariant-loop-seen
invariant-loop-seen l =
    l.edges.items ++ edges_of (drop l.seen-index l.counts.seen.items) ≡ edges_of l.counts.seen.items
