use Rattle.std.proofs.Common.{string_bytes, take}
use Rattle.xb_feed.specs.Feeding.{PutsDown}
use Rattle.xb_feed.specs.Watches.{watch_of}
use Rattle.xb_feed.proofs.feed.take_all_events.Given as goal

abbrev pub invariant-loop-event : goal.invariant-loop-event
invariant-loop-event g l =
    PutsDown g.C.Follow.rules (string_bytes l.initial.text) (watch_of l.initial.lines) (take l.event-index l.events) (string_bytes l.text)
    (watch_of l.lines)
