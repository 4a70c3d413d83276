use Rattle.std.proofs.Common.{sym, ◌∙◌, arith}
use Rattle.xb_rows.proofs.LeadingNumbers.{begins_with, number_below_more, number_of_seven, one_more}
use Rattle.xb_rows.proofs.plain.leading_number.Goals as goal

pub overflow_mul-number : goal.overflow_mul-number
overflow_mul-number c =
    let known = c.loop-count.invariant in
    let small = number_of_seven c.args.text.now c.loop-count.count (omega arith) known.within known.digits in
    omega (arith, known.value, small)

pub overflow_add-number : goal.overflow_add-number
overflow_add-number c =
    let known = c.loop-count.invariant in
    let small = number_of_seven c.args.text.now c.loop-count.count (omega arith) known.within known.digits in
    omega (arith, known.value, small, c.from.ensures)

pub loop-count-preserved : goal.loop-count-preserved
loop-count-preserved c =
    let known = c.loop-count.invariant in
    let more = one_more c.args.text.now c.loop-count.count c.in-Some.digit c.if-count-text.true known.digits
    (sym c.from_ascii.ensures ∙ c.in-Some.is) in
    record {
      few = omega arith;
      within = omega arith;
      digits = more.0;
      value = rw (c.from.ensures, c.get.ensures.value, known.value) (sym more.1);
    }

pub returns-else-count-eq0-clause-number : goal.returns-else-count-eq0-clause-number
returns-else-count-eq0-clause-number c =
    let known = c.loop-count.invariant in
    rw known.value (begins_with c.args.most c.loop-count.count c.args.text.now (omega arith) known.few known.within known.digits)

pub returns-else-count-eq0-clause-bound : goal.returns-else-count-eq0-clause-bound
returns-else-count-eq0-clause-bound c =
    let known = c.loop-count.invariant in
    rw known.value (number_below_more c.args.text.now c.loop-count.count c.args.most known.few known.within known.digits)
