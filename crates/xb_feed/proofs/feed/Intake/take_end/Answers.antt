use Rattle.std.proofs.Common.{◌≡◌, Err, rules}
use Rattle.xb_feed.specs.Watches.{watch_of}
use Rattle.xb_feed.proofs.Fed.{end_late}
use Rattle.xb_feed.proofs.Ended.{at_end_fault}
use Rattle.xb_feed.proofs.feed.Intake.take_end.Goals as goal

pub returns-in_err-take_events-clause-fault : goal.returns-in_err-take_events-clause-fault
returns-in_err-take_events-clause-fault g c =
    let fault : c.from_residual.result ≡ Err c.in_err-take_events.field-0.0 = search rules in
    rw fault
    (at_end_fault g.C.Follow.rules c.args.self.now.reader (watch_of c.args.self.now.lines) c.in_err-take_events.field-0.0
    (end_late g.C.Follow.rules c.args.self.now c.take_events.new.self c.end.new.self c.end.new.events.items c.in_err-take_events.field-0.0
    c.in-Ok.ensures.said c.end.ensures.place c.take_events.ensures.reader c.in_err-take_events.ensures.late))
