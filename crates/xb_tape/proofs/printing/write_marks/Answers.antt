use Rattle.std.proofs.Common.{string_bytes, arith}
use Rattle.std.proofs.lemmas.List.{append-nil}
use Rattle.xb_tape.proofs.PageMarks.{marks-written, marks-end}
use Rattle.xb_tape.proofs.printing.write_marks.Goals as goal

pub loop-mark-preserved : goal.loop-mark-preserved
loop-mark-preserved c =
    marks-written (string_bytes c.loop-mark.out) _ _ c.args.marks.now c.loop-mark.mark-index c.mark-item.result
    c.loop-mark-test.true c.mark-item.is c.loop-mark.invariant c.in_ok-write_mark.ensures

pub returns : goal.returns
returns c = rw (marks-end c.args.marks.now c.loop-mark.mark-index (omega arith), append-nil) at c.loop-mark.invariant
