use Rattle.std.proofs.Common.{◌+◌, ◌∙◌, sym, ap, arith}
use Rattle.std.proofs.lemmas.Result.{err_from_is_err_and}
use Rattle.xb_routes.specs.Coded.{coded}
use Rattle.xb_routes.proofs.Reading.{routes-end, routes-refused, routes-taken, routes-twice}
use Rattle.xb_routes.proofs.table.read_routes.Goals as goal

pub returns-in_err-entry-clause-refused : goal.returns-in_err-entry-clause-refused
returns-in_err-entry-clause-refused c =
    let i = c.loop-value.invariant in
    let p = err_from_is_err_and c.from_residual.result c.from_residual.ensures.1 in
    rw (p.1, p.2) (λ other. i.rest ∙ routes-refused c.args.plan c.args.values.now c.loop-value.value-index (c.loop-value.i + 1) c.loop-value.routes c.value-item.result c.loop-value-test.true c.value-item.is c.in_err-entry.field-0.0 (sym c.in_err-entry.ensures))

pub returns-then-has-clause-refused : goal.returns-then-has-clause-refused
returns-then-has-clause-refused c = λ other.
    let i = c.loop-value.invariant in
    i.rest ∙ routes-twice c.args.plan c.args.values.now c.loop-value.value-index (c.loop-value.i + 1) c.loop-value.routes c.value-item.result c.loop-value-test.true c.value-item.is (coded c.in_ok-entry.entry) (sym c.in_ok-entry.ensures) (sym c.if-has.ensures)

pub loop-value-preserved : goal.loop-value-preserved
loop-value-preserved c =
    let i = c.loop-value.invariant in
    record {
      number = ap (λ n. n + 1) i.number;
      rest = rw c.in-Ok.ensures (i.rest ∙ routes-taken c.args.plan c.args.values.now c.loop-value.value-index (c.loop-value.i + 1) c.loop-value.routes c.value-item.result c.loop-value-test.true c.value-item.is (coded c.in_ok-entry.entry) (sym c.in_ok-entry.ensures) (sym c.if-has.ensures));
    }

pub returns-clause-ok : goal.returns-clause-ok
returns-clause-ok c =
    let i = c.loop-value.invariant in
    i.rest ∙ routes-end c.args.plan c.args.values.now c.loop-value.value-index (c.loop-value.i + 1) c.loop-value.routes (omega arith)
