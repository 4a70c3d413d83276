use Rattle.std.proofs.Common.{◌≡◌, Err, rules, string_bytes}
use Rattle.xb_feed.proofs.Ended.{end_fault, end_silent, end_unwritten, ends}
use Rattle.xb_feed.proofs.feed.Intake.end.Goals as goal

pub returns-in_err-take_end-clause-fault : goal.returns-in_err-take_end-clause-fault
returns-in_err-take_end-clause-fault g c =
    let fault : c.from_residual.result ≡ Err c.in_err-take_end.field-0.0 = search rules in
    rw fault
    (end_fault g.C.Follow.rules c.args.self.now c.in_err-take_end.field-0.0 (g.W.Write.contents c.args.out.now) c.in_err-take_end.ensures.fault)

pub returns-in_err-told-clause-fault : goal.returns-in_err-told-clause-fault
returns-in_err-told-clause-fault g c =
    let fault : c.from_residual-in_err-told.result ≡ Err c.in_err-told.field-0.0 = search rules in
    rw fault
    (end_silent g.C.Follow.rules c.args.self.now c.take_end.new.self c.in_err-told.field-0.0 (g.W.Write.contents c.args.out.now)
    c.in_ok-take_end.ensures.taken c.in_err-told.ensures.silent)

pub returns-in_err-write_last-clause-fault : goal.returns-in_err-write_last-clause-fault
returns-in_err-write_last-clause-fault g c =
    let fault : c.from_residual-in_err-write_last.result ≡ Err c.in_err-write_last.field-0.0 = search rules in
    rw fault
    (end_unwritten g.C.Follow.rules c.args.self.now c.take_end.new.self c.in_err-write_last.field-0.0 (g.W.Write.contents c.args.out.now)
    (g.W.Write.contents c.write_last.new.out) c.requires c.in_ok-take_end.ensures.taken c.in_ok-told.ensures.levels
    c.in_err-write_last.ensures.failed)

pub returns-clause-ends : goal.returns-clause-ends
returns-clause-ends g c =
    ends g.C.Follow.rules c.args.self.now c.take_end.new.self c.args.said (string_bytes c.in_ok-told.told) (g.W.Write.contents c.args.out.now)
    (g.W.Write.contents c.write_last.new.out) c.requires c.in_ok-take_end.ensures.taken c.in_ok-told.ensures.levels
    c.in_ok-told.ensures.told c.in_ok-write_last.ensures.wrote
