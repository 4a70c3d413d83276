use Rattle.std.proofs.Common.{arith}
use Rattle.xb_rx.proofs.program.answer.Goals as goal

pub returns-in-Err : goal.returns-in-Err
returns-in-Err g c =
    let status = c.tell_fault.ensures.status in
    record {
      statuses = omega (arith, status);
      done = λ e. absurd (omega (arith, e, status));
      fault = λ e. record {
        told = g.E.Write.contents c.receive.new.err;
        had = rw c.in-None.is (c.in-Err.fault, c.in-Err.ensures, c.tell_fault.ensures.line);
      };
    }

pub returns-in-Err-compare : goal.returns-in-Err-compare
returns-in-Err-compare g c =
    let status = c.tell_fault-in-Err-compare.ensures.status in
    record {
      statuses = omega (arith, status);
      done = λ e. absurd (omega (arith, e, status));
      fault = λ e. record {
        told = g.E.Write.contents c.compare.new.err;
        had =
            rw c.in-Some.is
            (c.in-Err-compare.fault, c.in-Err-compare.ensures, c.tell_fault-in-Err-compare.ensures.line);
      };
    }
