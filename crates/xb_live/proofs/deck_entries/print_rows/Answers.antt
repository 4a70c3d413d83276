use Rattle.std.proofs.Common.{Err, Ok, refl, sym, ap, ◌∙◌, subst, arith}
use Rattle.std.proofs.lemmas.Result.{err_from_is_err_and}
use Rattle.xb_rows.specs.Scanning.{GivesRead}
use Rattle.xb_live.specs.Clocks.{styled}
use Rattle.xb_live.specs.Writing.{Ends}
use Rattle.xb_live.specs.Runs.{PrintsRows}
use Rattle.xb_live.proofs.Runs.{so_far-start, so_far-more, so_far-fault, so_far-many, so_far-end, so_far-stop, ends-printed, known, rows-end}
use Rattle.xb_live.proofs.deck_entries.print_rows.Goals as goal

pub loop-init : goal.loop-init
loop-init g c = record {
  few = omega (arith, c.requires.none);
  table = refl;
  so_far = λ clock tells. so_far-start (styled c.args.form clock) c.args.office.now c.args.hearings.now c.args.rows.now (g.W.Write.contents c.args.out.now) c.requires.fresh c.requires.silent;
}

pub loop-preserved : goal.loop-preserved
loop-preserved g c = record {
  few = omega (arith, c.take_row.ensures.one, c.loop.invariant.few);
  table = c.take_row.ensures.table ∙ c.loop.invariant.table;
  so_far = λ clock tells.
      so_far-more _ (styled c.args.form clock) c.loop.office c.loop.hearings (g.W.Write.contents c.args.out.now) _ c.take_row.new.office c.take_row.new.hearings c.in-Some.row _ c.args.rows.now _ _
      (c.loop.invariant.so_far clock tells) (subst (λ row. GivesRead c.loop.rows (Ok row) c.next_row.new.self) c.in-Some.is c.in_ok-row.ensures)
      (λ rows before. c.in_ok-take_row-in-Some.ensures.written clock tells rows _ before);
}

pub returns-in_err-row : goal.returns-in_err-row
returns-in_err-row g c = λ clock tells.
    let p = err_from_is_err_and c.from_residual.result c.from_residual.ensures.1 in
    subst (λ r. PrintsRows (styled c.args.form clock) c.args.office.now.live.table c.args.rows.now r (g.W.Write.contents c.args.out.now) (g.W.Write.contents c.loop.out)) (sym p.1)
    (known (styled c.args.form clock) c.args.office.now.live.table c.args.rows.now _ _ _ (rows-end _ _ p.2) (so_far-stop _ (styled c.args.form clock) c.loop.office c.loop.hearings (g.W.Write.contents c.args.out.now) (g.W.Write.contents c.loop.out) c.args.office.now.live.table
    c.in_err-row.field-0.0 p.0 c.args.rows.now c.loop.rows _ c.loop.invariant.table (c.loop.invariant.so_far clock tells) c.in_err-row.ensures p.2))

pub returns-in_err-take_row-in-Some : goal.returns-in_err-take_row-in-Some
returns-in_err-take_row-in-Some g c = λ clock tells.
    let p = err_from_is_err_and c.from_residual-in_err-take_row-in-Some.result c.from_residual-in_err-take_row-in-Some.ensures.1 in
    subst (λ r. PrintsRows (styled c.args.form clock) c.args.office.now.live.table c.args.rows.now r (g.W.Write.contents c.args.out.now) (g.W.Write.contents c.take_row.new.out)) (sym (p.1 ∙ ap Err p.2))
    (known (styled c.args.form clock) c.args.office.now.live.table c.args.rows.now _ _ _ tt (so_far-fault _ (styled c.args.form clock) c.loop.office c.loop.hearings (g.W.Write.contents c.args.out.now) (g.W.Write.contents c.loop.out) c.take_row.new.office c.take_row.new.hearings c.args.office.now.live.table c.in-Some.row
    _ c.in_err-take_row-in-Some.field-0.0 c.args.rows.now c.loop.rows _ (c.take_row.ensures.table ∙ c.loop.invariant.table) (c.loop.invariant.so_far clock tells)
    (subst (λ row. GivesRead c.loop.rows (Ok row) c.next_row.new.self) c.in-Some.is c.in_ok-row.ensures)
    (λ rows before. c.in_err-take_row-in-Some.ensures.written clock tells rows _ before)))

pub returns-in_err-end-in-None : goal.returns-in_err-end-in-None
returns-in_err-end-in-None g c = λ clock tells.
    let p = err_from_is_err_and c.from_residual-in_err-end-in-None.result c.from_residual-in_err-end-in-None.ensures.1 in
    subst (λ r. PrintsRows (styled c.args.form clock) c.args.office.now.live.table c.args.rows.now r (g.W.Write.contents c.args.out.now) (g.W.Write.contents c.end.new.out)) (sym (p.1 ∙ ap Err p.2))
    (known (styled c.args.form clock) c.args.office.now.live.table c.args.rows.now _ _ _ tt (ends-printed (styled c.args.form clock) c.args.office.now.live.table _ _ c.in_err-end-in-None.field-0.0 c.args.rows.now
    (so_far-end _ (styled c.args.form clock) c.loop.office c.loop.hearings (g.W.Write.contents c.args.out.now) (g.W.Write.contents c.loop.out) c.args.office.now.live.table _ (Err c.in_err-end-in-None.field-0.0)
    c.args.rows.now c.loop.rows _ (c.loop.invariant.so_far clock tells) (subst (λ row. GivesRead c.loop.rows (Ok row) c.next_row.new.self) c.in-None.is c.in_ok-row.ensures)
    (λ rows before. subst (λ t. Ends (styled c.args.form clock) t rows (Err c.in_err-end-in-None.field-0.0) (g.W.Write.contents c.args.out.now) (g.W.Write.contents c.end.new.out)) c.loop.invariant.table (c.in_err-end-in-None.ensures clock tells rows _ before)))))

pub returns-in-None : goal.returns-in-None
returns-in-None g c = λ clock tells.
    known (styled c.args.form clock) c.args.office.now.live.table c.args.rows.now _ _ _ tt (so_far-end _ (styled c.args.form clock) c.loop.office c.loop.hearings (g.W.Write.contents c.args.out.now) (g.W.Write.contents c.loop.out) c.args.office.now.live.table _ (Ok tt)
    c.args.rows.now c.loop.rows _ (c.loop.invariant.so_far clock tells) (subst (λ row. GivesRead c.loop.rows (Ok row) c.next_row.new.self) c.in-None.is c.in_ok-row.ensures)
    (λ rows before. subst (λ t. Ends (styled c.args.form clock) t rows (Ok tt) (g.W.Write.contents c.args.out.now) (g.W.Write.contents c.end.new.out)) c.loop.invariant.table (c.in_ok-end-in-None.ensures clock tells rows _ before)))

pub returns : goal.returns
returns g c = λ clock tells.
    known (styled c.args.form clock) c.args.office.now.live.table c.args.rows.now _ _ _ tt (so_far-many _ (styled c.args.form clock) c.loop.office c.loop.hearings (g.W.Write.contents c.args.out.now) (g.W.Write.contents c.loop.out) c.args.office.now.live.table
    c.args.rows.now c.loop.rows c.loop.invariant.table (omega (arith, c.loop-test.false)) (c.loop.invariant.so_far clock tells))
