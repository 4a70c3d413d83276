use Rattle.std.proofs.Common.{◌≡◌, Err, rules, string_bytes}
use Rattle.xb_feed.specs.Watches.{watch_of}
use Rattle.xb_feed.proofs.Fed.{begins_late}
use Rattle.xb_feed.proofs.feed.begun.Goals as goal

pub returns-in_err-take_events-clause-refused : goal.returns-in_err-take_events-clause-refused
returns-in_err-take_events-clause-refused g c =
    let fault : c.from_residual-in_err-take_events.result ≡ Err c.in_err-take_events.field-0.0 = search rules in
    rw fault
    (begins_late g.C.Follow.rules c.args.format c.args.request.now c.in_ok-reader.reader c.take_events.new.self.reader
    c.reader_of.new.events.items (string_bytes c.new-2.result) (string_bytes c.take_events.new.self.text)
    (watch_of c.in_ok-lines.lines) c.in_err-take_events.field-0.0 c.in_ok-reader.ensures.begun
    c.take_events.ensures.reader c.in_ok-lines.ensures c.in_err-take_events.ensures.late)
