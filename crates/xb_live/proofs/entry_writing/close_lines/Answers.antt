use Rattle.std.proofs.Common.{◌≡◌, ◌+◌, ◌++◌, ◌∷◌, [], ℕ, Err, refl, rules, sym, ap, ◌∙◌, subst, arith}
use Rattle.xb_model.specs.declared.line.TheConstants.{LINES}
use Rattle.xb_model.specs.Rows.{close_row}
use Rattle.xb_live.specs.Clocks.{styled}
use Rattle.xb_live.specs.Texts.{with_closes}
use Rattle.xb_live.specs.Writing.{HasWritten, Writes}
use Rattle.xb_live.proofs.Written.{closes-none, closes-more, faults-more, first_closes, none_below, with_closes_below}
use Rattle.xb_live.proofs.entry_writing.close_lines.Goals as goal
use Rattle.xb_live.proofs.entry_writing.close_lines.Goals.{in-Some+in_ok-take_row, in_default}

pub loop-number-init : goal.loop-number-init
loop-number-init g c = record {
  few = omega arith;
  table = refl;
  written = λ clock tells rows start before. subst (λ rs. HasWritten (styled c.args.form clock) c.args.office.now c.args.hearings.now rs start (g.W.Write.contents c.args.out.now)) (sym (closes-none rows)) before;
}

pub returns-in_err-take_row-clause-written : goal.returns-in_err-take_row-clause-written
returns-in_err-take_row-clause-written g c = λ clock tells rows start before.
    let n : ℕ = c.loop-number.number in
    let now : with_closes_below n rows ++ c.close.result ∷ [] ≡ with_closes_below (n + 1) rows =
    ap (λ row. with_closes_below n rows ++ row ∷ []) (c.close.ensures ∙ ap close_row c.in-Some.ensures.value) ∙ closes-more n rows in
    let wrote = c.in_err-take_row.ensures.written clock tells (with_closes_below n rows) start (c.loop-number.invariant.written clock tells rows start before) in
    let fault : c.from_residual.result ≡ Err c.in_err-take_row.field-0.0 = search rules in
    subst (λ r. Writes (styled c.args.form clock) c.take_row.new.office c.take_row.new.hearings (with_closes rows) r start (g.W.Write.contents c.take_row.new.out)) (sym fault)
    (faults-more (styled c.args.form clock) c.take_row.new.office c.take_row.new.hearings (with_closes_below (n + 1) rows) (with_closes rows) c.in_err-take_row.field-0.0 start _
    (first_closes (n + 1) rows (omega arith))
    (subst (λ rs. Writes (styled c.args.form clock) c.take_row.new.office c.take_row.new.hearings rs (Err c.in_err-take_row.field-0.0) start (g.W.Write.contents c.take_row.new.out)) now wrote))

pub loop-number-preserved : goal.loop-number-preserved
loop-number-preserved g c =
    elim c.match-new.branch [
      | in-Some+in_ok-take_row w ↦ rw (w.office-is, w.hearings-is, w.out-is) (record {
        few = omega (arith, w.take_row.ensures.one, c.loop-number.invariant.few);
        table = w.take_row.ensures.table ∙ c.loop-number.invariant.table;
        written = λ clock tells rows start before.
            let n : ℕ = c.loop-number.number in
            let now : with_closes_below n rows ++ w.close.result ∷ [] ≡ with_closes_below (n + 1) rows =
            ap (λ row. with_closes_below n rows ++ row ∷ []) (w.close.ensures ∙ ap close_row w.in-Some.ensures.value) ∙ closes-more n rows in
            subst (λ rs. HasWritten (styled c.args.form clock) w.take_row.new.office w.take_row.new.hearings rs start (g.W.Write.contents w.take_row.new.out)) now
            (w.in_ok-take_row.ensures.written clock tells (with_closes_below n rows) start (c.loop-number.invariant.written clock tells rows start before));
      })
      | in_default w ↦ absurd (none_below c.new.result c.loop-number.number c.new.ensures.variant c.loop-number-test.true w.in_default.is)
    ]

pub returns-clause-written : goal.returns-clause-written
returns-clause-written g c = λ clock tells rows start before.
    let last : c.loop-number.number ≡ LINES = omega arith in
    subst (λ n. HasWritten (styled c.args.form clock) c.loop-number.office c.loop-number.hearings (with_closes_below n rows) start (g.W.Write.contents c.loop-number.out)) last
    (c.loop-number.invariant.written clock tells rows start before)
