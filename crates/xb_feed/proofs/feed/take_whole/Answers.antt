use Rattle.std.proofs.Common.{◌≡◌, Err, rules, string_bytes}
use Rattle.std.proofs.lemmas.Result.{IfErr-weaker, IfOk-weaker}
use Rattle.xb_feed.proofs.Wholes.{whole_begins_fault, whole_end_fault, whole_ends, whole_fault}
use Rattle.xb_feed.proofs.feed.take_whole.Goals as goal

pub returns-in_err-take_and_write-clause-fault : goal.returns-in_err-take_and_write-clause-fault
returns-in_err-take_and_write-clause-fault g c =
    let fault : c.from_residual.result ≡ Err c.in_err-take_and_write.field-0.0 = search rules in
    rw fault
    (whole_begins_fault g.C.Follow.rules c.args.feed.now c.args.beginning.now c.in_err-take_and_write.field-0.0
    (g.R.Read.remaining c.args.input.now) (g.W.Write.contents c.args.out.now) (g.W.Write.contents c.take_and_write.new.out)
    c.in_err-take_and_write.ensures.fault)

pub returns-in_err-take_all-clause-fault : goal.returns-in_err-take_all-clause-fault
returns-in_err-take_all-clause-fault g c =
    let fault : c.from_residual-in_err-take_all.result ≡ Err c.in_err-take_all.field-0.0 = search rules in
    rw fault
    (whole_fault g.C.Follow.rules c.args.feed.now c.take_and_write.new.self c.args.beginning.now c.in_err-take_all.field-0.0
    (g.R.Read.remaining c.args.input.now) (g.W.Write.contents c.args.out.now) (g.W.Write.contents c.take_and_write.new.out)
    (g.W.Write.contents c.take_all.new.out) c.in_ok-take_and_write.ensures.taken c.in_err-take_all.ensures.fault)

pub take_all-requires : goal.take_all-requires
take_all-requires g c = c.in_ok-take_and_write.ensures.taken.none_left

pub end-requires : goal.end-requires
end-requires g c = c.in_ok-take_all.ensures.fed.writes.none_left

pub returns-clause-ends : goal.returns-clause-ends
returns-clause-ends g c =
    IfOk-weaker c.end.result _ _
    (λ told ends. whole_ends g.C.Follow.rules c.args.feed.now c.take_and_write.new.self c.take_all.new.feed c.args.said (string_bytes told)
    c.args.beginning.now (g.R.Read.remaining c.args.input.now) (g.R.Read.remaining c.take_all.new.input)
    (g.W.Write.contents c.args.out.now) (g.W.Write.contents c.take_and_write.new.out) (g.W.Write.contents c.take_all.new.out)
    (g.W.Write.contents c.end.new.out) c.in_ok-take_and_write.ensures.taken c.in_ok-take_all.ensures.fed
    c.in_ok-take_all.ensures.end ends)
    c.end.ensures.ends

pub returns-clause-fault : goal.returns-clause-fault
returns-clause-fault g c =
    IfErr-weaker c.end.result _ _
    (λ fault stops. whole_end_fault g.C.Follow.rules c.args.feed.now c.take_and_write.new.self c.take_all.new.feed c.args.beginning.now fault
    (g.R.Read.remaining c.args.input.now) (g.R.Read.remaining c.take_all.new.input)
    (g.W.Write.contents c.args.out.now) (g.W.Write.contents c.take_and_write.new.out) (g.W.Write.contents c.take_all.new.out)
    (g.W.Write.contents c.end.new.out) c.in_ok-take_and_write.ensures.taken c.in_ok-take_all.ensures.fed
    c.in_ok-take_all.ensures.end stops)
    c.end.ensures.fault
