use Rattle.std.proofs.Common.{◌≡◌, Err, Ok, sym, ap, ◌∙◌, subst}
use Rattle.std.proofs.lemmas.Result.{err_from_is_err_and}
use Rattle.xb_routes.specs.Text.{table_of_text}
use Rattle.xb_live.specs.Clocks.{styled}
use Rattle.xb_live.specs.Runs.{PrintsRows, Runs}
use Rattle.xb_live.proofs.Decks.{deck-run, routes-fault, table-fault}
use Rattle.xb_live.proofs.deck_entries.run_deck.Goals as goal

pub returns-in_err-text : goal.returns-in_err-text
returns-in_err-text g c = λ clock tells.
    let p = err_from_is_err_and c.from_residual.result c.from_residual.ensures.1 in
    subst (λ r. Runs (styled c.args.form clock) (g.R.Read.remaining c.args.deck.now) r (g.W.Write.contents c.args.out.now) (g.W.Write.contents c.args.out.now)) (sym (p.1 ∙ ap Err p.2))
    (table-fault (styled c.args.form clock) _ _ c.in_err-text.field-0.0 c.in_err-text.ensures.fault)

pub returns-in_err-table : goal.returns-in_err-table
returns-in_err-table g c = λ clock tells.
    let p = err_from_is_err_and c.from_residual-in_err-table.result c.from_residual-in_err-table.ensures.1 in
    subst (λ r. Runs (styled c.args.form clock) (g.R.Read.remaining c.args.deck.now) r (g.W.Write.contents c.args.out.now) (g.W.Write.contents c.args.out.now)) (sym p.1)
    (routes-fault (styled c.args.form clock) _ _ _ _ c.in_err-table.field-0.0 p.0 c.in_ok-text.ensures.table (λ other. subst (λ text. table_of_text text ≡ Err c.in_err-table.field-0.0) c.deref.ensures.value (c.in_err-table.ensures.refused other)) p.2)

pub returns : goal.returns
returns g c = λ clock tells.
    deck-run (styled c.args.form clock) c.in_ok-table.table c.in_ok-text.text.items _ _ c.print_rows.result _ _ c.in_ok-text.ensures.table
    (subst (λ text. table_of_text text ≡ Ok c.in_ok-table.table) c.deref.ensures.value c.in_ok-table.ensures.ok)
    (subst (λ rows. PrintsRows (styled c.args.form clock) c.in_ok-table.table rows c.print_rows.result (g.W.Write.contents c.args.out.now) (g.W.Write.contents c.print_rows.new.out)) c.rows_after-rows.ensures
    (subst (λ table. PrintsRows (styled c.args.form clock) table c.rows_after-rows.result c.print_rows.result (g.W.Write.contents c.args.out.now) (g.W.Write.contents c.print_rows.new.out)) c.in_ok-office.ensures.table
    (c.print_rows.ensures clock tells)))
