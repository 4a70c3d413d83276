use Rattle.std.proofs.Common.{◌≡◌, Err, arith, rules}
use Rattle.xb_feed.proofs.Fed.{fault_next, goes_next}
use Rattle.xb_feed.proofs.feed.Intake.take_text.Goals as goal

pub returns-in_err-take_byte-clause-fault : goal.returns-in_err-take_byte-clause-fault
returns-in_err-take_byte-clause-fault g c =
    let fault : c.from_residual.result ≡ Err c.in_err-take_byte.field-0.0 = search rules in
    rw fault
    (fault_next g.C.Follow.rules c.args.self.now c.loop-byte.self c.take_byte.new.self c.args.piece.now c.loop-byte.byte-index _
    c.in_err-take_byte.field-0.0 (omega (arith, c.loop-byte-test.true)) c.loop-byte.invariant
    c.in_err-take_byte.ensures.fault)

pub loop-byte-preserved : goal.loop-byte-preserved
loop-byte-preserved g c =
    goes_next g.C.Follow.rules c.args.self.now c.loop-byte.self c.take_byte.new.self c.args.piece.now c.loop-byte.byte-index _
    (omega (arith, c.loop-byte-test.true)) c.loop-byte.invariant c.in_ok-take_byte.ensures.taken
