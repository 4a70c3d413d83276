use Rattle.std.proofs.Common.{eqb, [], ◌∷◌, ◌++◌, sym, ap, ◌∙◌, subst}
use Rattle.std.proofs.lemmas.Result.{err_from_is_err_and}
use Rattle.xb_live.specs.Sounding.{Sounds}
use Rattle.xb_live.specs.Starting.{clock_taken, marks_given}
use Rattle.xb_live.proofs.SoundedRows.{here-sounds, here-untaken, other-ok}
use Rattle.xb_live.proofs.deck_sound.sound_row.Goals as goal

pub returns-in_err-marks-clause-sounds : goal.returns-in_err-marks-clause-sounds
returns-in_err-marks-clause-sounds g c = λ asked cadence rows start is before.
    let p = err_from_is_err_and c.from_residual.result c.from_residual.ensures.1 in
    subst (λ r. Sounds asked cadence c.take.new.self c.take_clock_row.new.self c.args.trunk.now (rows ++ c.args.row ∷ []) r start (g.W.Write.contents c.args.out.now)) (sym p.1)
    (here-untaken asked cadence c.args.office.now c.take.new.self c.args.starting.now c.args.trunk.now c.args.row rows c.take.new.self.entry start (g.W.Write.contents c.args.out.now)
    c.take.ensures.table before (c.take.ensures.counted rows before.counted) (c.take.ensures.completed rows before.counted)
    (ap (λ l. eqb c.args.row.line l) is ∙ ap (λ l. eqb l c.args.line) (sym c.line.ensures) ∙ sym c.eq.ensures ∙ c.if-eq.true))

pub returns-in_ok-marks-clause-sounds : goal.returns-in_ok-marks-clause-sounds
returns-in_ok-marks-clause-sounds g c = λ asked cadence rows start is before.
    here-sounds asked cadence c.args.office.now c.take.new.self c.args.starting.now c.args.trunk.now c.args.row rows c.take.new.self.entry start (g.W.Write.contents c.args.out.now)
    c.take.ensures.table before (c.take.ensures.counted rows before.counted) (c.take.ensures.completed rows before.counted)
    (ap (λ l. eqb c.args.row.line l) is ∙ ap (λ l. eqb l c.args.line) (sym c.line.ensures) ∙ sym c.eq.ensures ∙ c.if-eq.true)
    c.take_row.new.self c.take_clock_row.new.self (g.W.Write.contents c.take_row.new.out) c.ms-then-eq.result c.deref.result.now c.take_row.result
    c.ms-then-eq.ensures.value
    (c.deref.ensures.value ∙ c.in_ok-marks.ensures.marks
    ∙ ap (λ ms. marks_given c.args.starting.now ms c.entry.result.now) c.ms.ensures.value
    ∙ ap (λ entry. marks_given c.args.starting.now c.args.row.ms entry) c.entry.ensures)
    (c.in_ok-marks.ensures.state
    ∙ ap (λ ms. clock_taken c.args.starting.now ms c.entry.result.now) c.ms.ensures.value
    ∙ ap (λ entry. clock_taken c.args.starting.now c.args.row.ms entry) c.entry.ensures)
    c.take_row.ensures.whole c.take_row.ensures.beginning c.take_row.ensures.waits c.take_row.ensures.cadence

pub returns-else-eq-clause-sounds : goal.returns-else-eq-clause-sounds
returns-else-eq-clause-sounds g c = λ asked cadence rows start is before.
    other-ok asked cadence c.args.office.now c.take.new.self c.args.starting.now c.args.trunk.now c.args.row rows c.take.new.self.entry start (g.W.Write.contents c.args.out.now)
    c.take.ensures.table before (c.take.ensures.counted rows before.counted) (c.take.ensures.completed rows before.counted)
    (ap (λ l. eqb c.args.row.line l) is ∙ ap (λ l. eqb l c.args.line) (sym c.line.ensures) ∙ sym c.eq.ensures ∙ c.if-eq.false)
    c.take_other_row.new.self c.take_other_row.ensures
