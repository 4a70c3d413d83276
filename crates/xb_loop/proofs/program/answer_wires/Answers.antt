use Rattle.std.proofs.Common.{arith, inl}
use Rattle.xb_command.specs.Programs.{streams}
use Rattle.xb_loop.proofs.Attended.{more_or_not}
use Rattle.xb_loop.proofs.program.answer_wires.Goals as goal

pub returns-in-Ok : goal.returns-in-Ok
returns-in-Ok g c =
    more_or_not c.args.program.now.name.now c.args.request.now c.in-Ok.are_more
    (streams (g.R.Read.remaining c.args.recording.now) (g.W.Write.contents c.args.out.now) (g.E.Write.contents c.args.err.now))
    (streams (g.R.Read.remaining c.print_wires.new.recording) (g.W.Write.contents c.print_wires.new.out) (g.E.Write.contents c.tell_more.new.err))
    c.tell_more.result c.in-Ok.ensures c.tell_more.ensures

pub returns-in-Err : goal.returns-in-Err
returns-in-Err g c =
    let status = c.tell_fault.ensures.status in
    record {
      statuses = omega (arith, status);
      done = λ e. absurd (omega (arith, e, status));
      fault = λ e. inl (c.in-Err.fault, c.in-Err.ensures, c.tell_fault.ensures.line);
    }
