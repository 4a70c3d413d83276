use Rattle.std.proofs.Common.{arith, inl, subst}
use Rattle.xb_command.specs.Programs.{streams}
use Rattle.xb_live.specs.Program.{TellsNote}
use Rattle.xb_live.proofs.Noted.{noted}
use Rattle.xb_live.proofs.program.answer.Goals as goal

pub returns-in-Ok : goal.returns-in-Ok
returns-in-Ok g c =
    noted c.args.request c.args.program.now c.in-Ok.given_up
    (streams (g.R.Read.remaining c.args.deck.now) (g.W.Write.contents c.args.out.now) (g.E.Write.contents c.args.err.now))
    (streams (g.R.Read.remaining c.deliver.new.deck) (g.W.Write.contents c.deliver.new.out) (g.E.Write.contents c.tell_note.new.err))
    c.tell_note.result c.in-Ok.ensures
    (subst (λ l. TellsNote c.args.program.now.name.now l c.in-Ok.given_up (g.E.Write.contents c.args.err.now) (g.E.Write.contents c.tell_note.new.err) c.tell_note.result) c.sounding_line-line.ensures c.tell_note.ensures)

pub returns-in-Err : goal.returns-in-Err
returns-in-Err g c =
    let status = c.tell_fault.ensures.status in
    record {
      statuses = omega (arith, status);
      done = λ e. absurd (omega (arith, e, status));
      fault = λ e. inl (record {
        fault = c.in-Err.fault;
        written = c.in-Err.ensures;
        line = c.tell_fault.ensures.line;
      });
    }
