use Rattle.std.proofs.Common.{arith}
use Rattle.xb_loop.proofs.Counted.{counted_next}
use Rattle.xb_loop.proofs.counts.EdgeCounts.take.Goals as goal

pub loop-event-preserved : goal.loop-event-preserved
loop-event-preserved c = λ wire.
    counted_next c.args.events.now c.loop-event.event-index _ c.loop-event.self.seen.items c.take_event.new.self.seen.items
    wire _ (omega (arith, c.loop-event-test.true)) c.take_event.ensures (c.loop-event.invariant wire)
