use Rattle.std.proofs.Common.{◌≡◌, ◌<◌, ◌++◌, ◌∷◌, [], Err, get_or, rules, refl, sym, ap, ◌∙◌, subst}
use Rattle.std.specs.Io.KnownBytes.{Appends}
use Rattle.std.proofs.KnownBytes.{Appends-nil}
use Rattle.xb_model.specs.declared.line.TheConstants.{LINES}
use Rattle.xb_text.specs.Writing.{AppendsBeginning}
use Rattle.xb_live.specs.declared.fault.EntriesFault.{EntriesFault}
use Rattle.xb_live.specs.declared.fault.EntriesFault.TheVariants.{Write}
use Rattle.xb_live.specs.declared.line_hearing.Hearing.{Hearing}
use Rattle.xb_live.specs.Clocks.{styled}
use Rattle.xb_live.specs.Counting.{numbered_by}
use Rattle.xb_live.specs.Faults.{IsOfRow}
use Rattle.xb_live.specs.Texts.{row_text}
use Rattle.xb_live.specs.Writing.{Writes}
use Rattle.xb_live.proofs.Counts.{no_items}
use Rattle.xb_live.proofs.RowTexts.{row-fault, row-told}
use Rattle.xb_live.proofs.Written.{written-row, written-beginning, written-fault}
use Rattle.xb_live.proofs.entry_writing.take_row.Goals as goal

pub returns-in_err-text-clause-written : goal.returns-in_err-text-clause-written
returns-in_err-text-clause-written g c = λ clock tells rows start before.
    let style = styled c.args.form clock in
    let table = c.args.office.now.live.table in
    let row = c.args.row in
    let marks = c.take-number.new.self.entry in
    let number = c.take-number.result in
    let hears = c.hear-signals.ensures.heard table rows before.heard in
    let signals = c.hear-signals.ensures.signals table rows before.heard in
    let heard : Hearing = c.of-heard.result.now in
    let below : row.line < LINES = subst (λ l. l < LINES) c.line-line.ensures c.of-heard.ensures.below in
    let held = c.of-heard.ensures.value heard ∙ ap (λ l. get_or c.hear-signals.new.hearings.lines l heard) c.line-line.ensures in
    let e : EntriesFault = c.in_err-text.field-0.0 in
    let of : IsOfRow c.args.form row.line c.hear-signals.result.items number marks heard e =
    subst (λ l. IsOfRow c.args.form l c.hear-signals.result.items number marks heard e) c.line-line.ensures
    (subst (λ ss. IsOfRow c.args.form c.line-line.result ss number marks heard e) c.deref.ensures.0
    (subst (λ ms. IsOfRow c.args.form c.line-line.result c.deref.result.now number ms heard e) c.entry.ensures c.in_err-text.ensures.fault)) in
    let fault : c.from_residual.result ≡ Err e = search rules in
    subst (λ r. Writes style c.take-number.new.self c.hear-signals.new.hearings (rows ++ row ∷ []) r start (g.W.Write.contents c.args.out.now)) (sym fault)
    (written-fault style c.args.office.now c.take-number.new.self c.args.hearings.now c.hear-signals.new.hearings row _ c.take-number.ensures.table rows start _ before
    (c.take-number.ensures.counted rows before.counted) hears (c.take-number.ensures.completed rows before.counted)
    (numbered_by row.line marks number) (c.take-number.ensures.number rows before.counted)
    marks number refl e
    (row-fault table before.counted.taken.lawful rows row marks c.hear-signals.new.hearings heard below held
    c.args.form c.hear-signals.result.items number hears signals e of))

pub returns-then-is_empty-clause-written : goal.returns-then-is_empty-clause-written
returns-then-is_empty-clause-written g c = λ clock tells rows start before.
    let style = styled c.args.form clock in
    let table = c.args.office.now.live.table in
    let row = c.args.row in
    let marks = c.take-number.new.self.entry in
    let number = c.take-number.result in
    let hears = c.hear-signals.ensures.heard table rows before.heard in
    let signals = c.hear-signals.ensures.signals table rows before.heard in
    let heard : Hearing = c.of-heard.result.now in
    let below : row.line < LINES = subst (λ l. l < LINES) c.line-line.ensures c.of-heard.ensures.below in
    let held = c.of-heard.ensures.value heard ∙ ap (λ l. get_or c.hear-signals.new.hearings.lines l heard) c.line-line.ensures in
    let text = c.in_ok-text.ensures.text clock tells
    ∙ ap (λ l. row_text style l c.deref.result.now number c.entry.result.now heard) c.line-line.ensures
    ∙ ap (λ ss. row_text style row.line ss number c.entry.result.now heard) c.deref.ensures.0
    ∙ ap (λ ms. row_text style row.line c.hear-signals.result.items number ms heard) c.entry.ensures
    ∙ row-told table before.counted.taken.lawful rows row marks c.hear-signals.new.hearings heard below held
    c.args.form clock c.hear-signals.result.items number hears signals in
    let empty = no_items c.in_ok-text.text (sym c.if-is_empty.true ∙ c.is_empty.ensures) in
    written-row style c.args.office.now c.take-number.new.self c.args.hearings.now c.hear-signals.new.hearings row _ c.take-number.ensures.table rows start _ before
    (c.take-number.ensures.counted rows before.counted) hears (c.take-number.ensures.completed rows before.counted)
    (numbered_by row.line marks number) (c.take-number.ensures.number rows before.counted)
    _ (subst (Appends _ _) (sym empty ∙ text) (Appends-nil _))

pub returns-in_err-write_whole-clause-written : goal.returns-in_err-write_whole-clause-written
returns-in_err-write_whole-clause-written g c = λ clock tells rows start before.
    let style = styled c.args.form clock in
    let table = c.args.office.now.live.table in
    let row = c.args.row in
    let marks = c.take-number.new.self.entry in
    let number = c.take-number.result in
    let hears = c.hear-signals.ensures.heard table rows before.heard in
    let signals = c.hear-signals.ensures.signals table rows before.heard in
    let heard : Hearing = c.of-heard.result.now in
    let below : row.line < LINES = subst (λ l. l < LINES) c.line-line.ensures c.of-heard.ensures.below in
    let held = c.of-heard.ensures.value heard ∙ ap (λ l. get_or c.hear-signals.new.hearings.lines l heard) c.line-line.ensures in
    let text = c.in_ok-text.ensures.text clock tells
    ∙ ap (λ l. row_text style l c.deref.result.now number c.entry.result.now heard) c.line-line.ensures
    ∙ ap (λ ss. row_text style row.line ss number c.entry.result.now heard) c.deref.ensures.0
    ∙ ap (λ ms. row_text style row.line c.hear-signals.result.items number ms heard) c.entry.ensures
    ∙ row-told table before.counted.taken.lawful rows row marks c.hear-signals.new.hearings heard below held
    c.args.form clock c.hear-signals.result.items number hears signals in
    let fault : c.from_residual-in_err-write_whole.result ≡ Err Write = search rules in
    subst (λ r. Writes style c.take-number.new.self c.hear-signals.new.hearings (rows ++ row ∷ []) r start (g.W.Write.contents c.write_whole.new.out)) (sym fault)
    (written-beginning style c.args.office.now c.take-number.new.self c.args.hearings.now c.hear-signals.new.hearings row _ c.take-number.ensures.table rows start _ before
    (c.take-number.ensures.counted rows before.counted) hears (c.take-number.ensures.completed rows before.counted)
    (numbered_by row.line marks number) (c.take-number.ensures.number rows before.counted)
    _ (subst (AppendsBeginning _ _) (c.deref-2.ensures.value ∙ text) c.write_whole.ensures.beginning))

pub returns-clause-written : goal.returns-clause-written
returns-clause-written g c = λ clock tells rows start before.
    let style = styled c.args.form clock in
    let table = c.args.office.now.live.table in
    let row = c.args.row in
    let marks = c.take-number.new.self.entry in
    let number = c.take-number.result in
    let hears = c.hear-signals.ensures.heard table rows before.heard in
    let signals = c.hear-signals.ensures.signals table rows before.heard in
    let heard : Hearing = c.of-heard.result.now in
    let below : row.line < LINES = subst (λ l. l < LINES) c.line-line.ensures c.of-heard.ensures.below in
    let held = c.of-heard.ensures.value heard ∙ ap (λ l. get_or c.hear-signals.new.hearings.lines l heard) c.line-line.ensures in
    let text = c.in_ok-text.ensures.text clock tells
    ∙ ap (λ l. row_text style l c.deref.result.now number c.entry.result.now heard) c.line-line.ensures
    ∙ ap (λ ss. row_text style row.line ss number c.entry.result.now heard) c.deref.ensures.0
    ∙ ap (λ ms. row_text style row.line c.hear-signals.result.items number ms heard) c.entry.ensures
    ∙ row-told table before.counted.taken.lawful rows row marks c.hear-signals.new.hearings heard below held
    c.args.form clock c.hear-signals.result.items number hears signals in
    written-row style c.args.office.now c.take-number.new.self c.args.hearings.now c.hear-signals.new.hearings row _ c.take-number.ensures.table rows start _ before
    (c.take-number.ensures.counted rows before.counted) hears (c.take-number.ensures.completed rows before.counted)
    (numbered_by row.line marks number) (c.take-number.ensures.number rows before.counted)
    _ (subst (Appends _ _) (c.deref-2.ensures.value ∙ text) c.in_ok-write_whole.ensures.whole)
