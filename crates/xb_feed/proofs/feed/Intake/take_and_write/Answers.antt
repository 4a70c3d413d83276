use Rattle.xb_feed.proofs.PieceStops.{never_ok, stops_err, writes_err, writes_ok}
use Rattle.xb_feed.proofs.feed.Intake.take_and_write.Goals as goal

pub returns-in-Ok-clause-taken : goal.returns-in-Ok-clause-taken
returns-in-Ok-clause-taken g c =
    writes_ok g.C.Follow.rules c.write.result c.args.self.now c.take.new.self c.write.new.self c.args.piece.now
    (g.W.Write.contents c.args.out.now) (g.W.Write.contents c.write.new.out) c.requires c.in-Ok.ensures.taken
    c.write.ensures.reader c.write.ensures.known c.write.ensures.none_left c.write.ensures.wrote

pub returns-in-Ok-clause-fault : goal.returns-in-Ok-clause-fault
returns-in-Ok-clause-fault g c =
    writes_err g.C.Follow.rules c.write.result c.args.self.now c.take.new.self c.args.piece.now
    (g.W.Write.contents c.args.out.now) (g.W.Write.contents c.write.new.out) c.requires c.in-Ok.ensures.taken
    c.write.ensures.failed

pub returns-in-Err-clause-taken : goal.returns-in-Err-clause-taken
returns-in-Err-clause-taken g c = never_ok c.write_before.result _ c.write_before.ensures.fails

pub returns-in-Err-clause-fault : goal.returns-in-Err-clause-fault
returns-in-Err-clause-fault g c =
    stops_err g.C.Follow.rules c.write_before.result c.args.self.now c.take.new.self c.args.piece.now c.in-Err.fault
    (g.W.Write.contents c.args.out.now) (g.W.Write.contents c.write_before.new.out) c.requires c.in-Err.ensures.fault
    c.write_before.ensures.told
