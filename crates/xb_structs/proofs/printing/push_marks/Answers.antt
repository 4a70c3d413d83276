use Rattle.std.proofs.Common.{arith}
use Rattle.std.proofs.lemmas.List.{append-nil}
use Rattle.xb_structs.proofs.EntryLines.{no-more-text, one-more-text}
use Rattle.xb_structs.proofs.printing.push_marks.Goals as goal

pub loop-mark-preserved : goal.loop-mark-preserved
loop-mark-preserved c = record {
  text = one-more-text _ _ _ c.args.marks.now c.loop-mark.mark-index _ c.loop-mark-test.true
      c.loop-mark.invariant.text c.push_mark.ensures.text;
  few = omega (arith, c.loop-mark.invariant.few, c.push_mark.ensures.few);
}

pub returns-clause-text : goal.returns-clause-text
returns-clause-text c = rw (no-more-text c.args.marks.now c.loop-mark.mark-index (omega arith), append-nil) at c.loop-mark.invariant.text
