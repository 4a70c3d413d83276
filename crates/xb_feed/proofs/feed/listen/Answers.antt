use Rattle.std.proofs.Common.{◌≡◌, Err, refl, rules, string_bytes}
use Rattle.xb_feed.specs.declared.fault.RecordingFault.TheVariants.{Write}
use Rattle.xb_feed.proofs.Listened.{before_unwritten, cannot_begin, form_of, form_untold, header_unwritten, rows_unwritten, whole_told}
use Rattle.xb_feed.proofs.feed.listen.Goals as goal

pub returns-in_err-beginning-clause-fault : goal.returns-in_err-beginning-clause-fault
returns-in_err-beginning-clause-fault g c =
    let fault : c.from_residual.result ≡ Err c.in_err-beginning.field-0.0 = search rules in
    rw fault
    (form_untold g.C.Follow.rules c.args.header.now c.args.request.now c.args.before.now c.in_err-beginning.field-0.0 (g.R.Read.remaining c.args.input.now)
    (g.W.Write.contents c.args.out.now) c.in_err-beginning.ensures.none c.in_err-beginning.ensures.untold)

pub returns-in_err-feed-clause-fault : goal.returns-in_err-feed-clause-fault
returns-in_err-feed-clause-fault g c =
    let fault : c.from_residual-in_err-feed.result ≡ Err c.in_err-feed.field-0.0 = search rules in
    rw fault
    (cannot_begin g.C.Follow.rules c.args.header.now c.args.request.now c.args.before.now c.in_ok-beginning.format c.in_err-feed.field-0.0
    (g.R.Read.remaining c.args.input.now) (g.W.Write.contents c.args.out.now)
    (form_of c.args.request.now c.in_ok-beginning.format (g.R.Read.remaining c.args.input.now)
    c.in_ok-beginning.ensures.asked c.in_ok-beginning.ensures.told) c.in_err-feed.ensures.refused)

pub returns-in_err-write_whole-clause-fault : goal.returns-in_err-write_whole-clause-fault
returns-in_err-write_whole-clause-fault g c =
    let fault : c.from_residual-in_err-write_whole.result ≡ Err Write = search rules in
    rw fault
    (before_unwritten g.C.Follow.rules c.args.header.now c.args.request.now c.args.before.now c.in_ok-beginning.format c.in_ok-feed.feed c.in_ok-feed.ensures.starts
    (g.R.Read.remaining c.args.input.now)
    (form_of c.args.request.now c.in_ok-beginning.format (g.R.Read.remaining c.args.input.now)
    c.in_ok-beginning.ensures.asked c.in_ok-beginning.ensures.told)
    (g.W.Write.contents c.args.out.now) Write (g.W.Write.contents c.write_whole.new.out) refl c.write_whole.ensures.beginning)

pub returns-in_err-write_whole-2-clause-fault : goal.returns-in_err-write_whole-2-clause-fault
returns-in_err-write_whole-2-clause-fault g c =
    let fault : c.from_residual-in_err-write_whole-2.result ≡ Err Write = search rules in
    rw fault
    (header_unwritten g.C.Follow.rules c.args.header.now c.args.request.now c.args.before.now c.in_ok-beginning.format c.in_ok-feed.feed c.in_ok-feed.ensures.starts
    (g.R.Read.remaining c.args.input.now)
    (form_of c.args.request.now c.in_ok-beginning.format (g.R.Read.remaining c.args.input.now)
    c.in_ok-beginning.ensures.asked c.in_ok-beginning.ensures.told)
    (g.W.Write.contents c.args.out.now) Write (g.W.Write.contents c.write_whole.new.out)
    (g.W.Write.contents c.write_whole-2.new.out) refl c.in_ok-write_whole.ensures.whole c.write_whole-2.ensures.beginning)

pub returns-in_err-write-clause-fault : goal.returns-in_err-write-clause-fault
returns-in_err-write-clause-fault g c =
    let fault : c.from_residual-in_err-write.result ≡ Err c.in_err-write.field-0.0 = search rules in
    rw fault
    (rows_unwritten g.C.Follow.rules c.args.header.now c.args.request.now c.args.before.now c.in_ok-beginning.format c.in_ok-feed.feed c.in_ok-feed.ensures.starts
    (g.R.Read.remaining c.args.input.now)
    (form_of c.args.request.now c.in_ok-beginning.format (g.R.Read.remaining c.args.input.now)
    c.in_ok-beginning.ensures.asked c.in_ok-beginning.ensures.told)
    (g.W.Write.contents c.args.out.now) c.in_err-write.field-0.0 (g.W.Write.contents c.write_whole.new.out)
    (g.W.Write.contents c.write_whole-2.new.out) (g.W.Write.contents c.write.new.out) c.in_err-write.ensures.failed.0
    c.in_ok-write_whole.ensures.whole c.in_ok-write_whole-2.ensures.whole c.in_err-write.ensures.failed.1)

pub take_whole-requires : goal.take_whole-requires
take_whole-requires g c = c.in_ok-write.ensures.none_left

pub returns : goal.returns
returns g c =
    let told = whole_told g.C.Follow.rules c.args.header.now c.args.request.now c.args.before.now c.in_ok-beginning.format c.in_ok-feed.feed
    c.in_ok-feed.ensures.starts (g.R.Read.remaining c.args.input.now)
    (form_of c.args.request.now c.in_ok-beginning.format (g.R.Read.remaining c.args.input.now)
    c.in_ok-beginning.ensures.asked c.in_ok-beginning.ensures.told)
    (g.W.Write.contents c.args.out.now) string_bytes c.write.new.self (g.W.Write.contents c.write_whole.new.out)
    (g.W.Write.contents c.write_whole-2.new.out) (g.W.Write.contents c.write.new.out)
    (g.R.Read.remaining c.beginning_of.new.input) (g.W.Write.contents c.take_whole.new.out) c.deref.result.now
    c.in_ok-beginning.beginning.items c.take_whole.result c.in_ok-write_whole.ensures.whole
    c.in_ok-write_whole-2.ensures.whole c.in_ok-write.ensures.wrote c.in_ok-write.ensures.reader
    c.in_ok-write.ensures.known c.in_ok-beginning.ensures.read c.deref.ensures.value c.take_whole.ensures.ends
    c.take_whole.ensures.fault in
    record { listens = told.0; fault = told.1 }
