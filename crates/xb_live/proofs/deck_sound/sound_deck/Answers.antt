use Rattle.std.proofs.Common.{◌≡◌, Err, Ok, sym, ap, ◌∙◌, subst}
use Rattle.std.proofs.lemmas.Result.{err_from_is_err_and}
use Rattle.xb_routes.specs.Text.{table_of_text}
use Rattle.xb_live.specs.Starting.{Started, asked_of}
use Rattle.xb_live.specs.SoundedDecks.{SoundsRows, SoundsDeck}
use Rattle.xb_live.proofs.SoundedDecks.{sound-deck-run, sound-routes-fault, sound-table-fault}
use Rattle.xb_live.proofs.deck_sound.sound_deck.Goals as goal

pub returns-in_err-text-clause-sounds : goal.returns-in_err-text-clause-sounds
returns-in_err-text-clause-sounds g c =
    let p = err_from_is_err_and c.from_residual-in_err-text.result c.from_residual-in_err-text.ensures.1 in
    subst (λ r. SoundsDeck (asked_of c.args.line c.args.start) c.args.cadence (g.R.Read.remaining c.args.deck.now) r (g.W.Write.contents c.args.out.now) (g.W.Write.contents c.args.out.now)) (sym (p.1 ∙ ap Err p.2))
    (sound-table-fault (asked_of c.args.line c.args.start) c.args.cadence _ _ c.in_err-text.field-0.0 c.in_err-text.ensures.fault)

pub returns-in_err-table-clause-sounds : goal.returns-in_err-table-clause-sounds
returns-in_err-table-clause-sounds g c =
    let p = err_from_is_err_and c.from_residual-in_err-table.result c.from_residual-in_err-table.ensures.1 in
    subst (λ r. SoundsDeck (asked_of c.args.line c.args.start) c.args.cadence (g.R.Read.remaining c.args.deck.now) r (g.W.Write.contents c.args.out.now) (g.W.Write.contents c.args.out.now)) (sym p.1)
    (sound-routes-fault (asked_of c.args.line c.args.start) c.args.cadence _ _ _ _ c.in_err-table.field-0.0 p.0 c.in_ok-text.ensures.table (λ other. subst (λ text. table_of_text text ≡ Err c.in_err-table.field-0.0) c.deref.ensures.value (c.in_err-table.ensures.refused other)) p.2)

pub returns-clause-sounds : goal.returns-clause-sounds
returns-clause-sounds g c =
    sound-deck-run (asked_of c.args.line c.args.start) c.args.cadence c.in_ok-table.table c.in_ok-text.text.items _ _ c.sound_rows.result _ _ c.in_ok-text.ensures.table
    (subst (λ text. table_of_text text ≡ Ok c.in_ok-table.table) c.deref.ensures.value c.in_ok-table.ensures.ok)
    (subst (λ rows. SoundsRows (asked_of c.args.line c.args.start) c.args.cadence c.in_ok-table.table rows c.sound_rows.result (g.W.Write.contents c.args.out.now) (g.W.Write.contents c.sound_rows.new.out)) c.rows_after-rows.ensures
    (subst (λ table. SoundsRows (asked_of c.args.line c.args.start) c.args.cadence table c.rows_after-rows.result c.sound_rows.result (g.W.Write.contents c.args.out.now) (g.W.Write.contents c.sound_rows.new.out)) c.in_ok-office.ensures.table
    (subst (λ cadence. SoundsRows (asked_of c.args.line c.args.start) cadence c.in_ok-office.office.live.table c.rows_after-rows.result c.sound_rows.result (g.W.Write.contents c.args.out.now) (g.W.Write.contents c.sound_rows.new.out)) c.new-trunk.ensures.cadence
    (subst (λ start. SoundsRows (asked_of c.args.line start) c.new-trunk.result.cadence c.in_ok-office.office.live.table c.rows_after-rows.result c.sound_rows.result (g.W.Write.contents c.args.out.now) (g.W.Write.contents c.sound_rows.new.out)) (ap (λ (s : Started). s.start) c.new-starting.ensures)
    c.sound_rows.ensures))))
