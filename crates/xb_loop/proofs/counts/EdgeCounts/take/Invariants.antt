use Rattle.std.proofs.Common.{◌≡◌, ℕ, drop}
use Rattle.std.specs.Prelude.{option_map, slice_get}
use Rattle.xb_loop.specs.Counts.{levels_seen, said_of}
use Rattle.xb_loop.proofs.counts.EdgeCounts.take.Given as goal

abbrev pub invariant-loop-event : goal.invariant-loop-event
invariant-loop-event l =
    (wire : ℕ)
    → option_map (λ own. levels_seen own (said_of wire (drop l.event-index l.events))) (slice_get l.self.seen.items wire)
    ≡ option_map (λ own. levels_seen own (said_of wire l.events)) (slice_get l.initial.self.seen.items wire)
