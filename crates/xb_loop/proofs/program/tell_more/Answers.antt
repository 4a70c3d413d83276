use Rattle.xb_loop.proofs.Attended.{more_untold}
use Rattle.xb_loop.proofs.program.tell_more.Goals as goal

pub returns-in-Err : goal.returns-in-Err
returns-in-Err g c =
    more_untold c.args.program.now c.args.are_more (g.E.Write.contents c.write_whole.new.out)
    (g.E.Write.contents c.args.err.now) (g.E.Write.contents c.tell_fault.new.err) c.tell_fault.result
    c.if-not-are_more.false c.in-Err.ensures.beginning c.tell_fault.ensures.status c.tell_fault.ensures.line
