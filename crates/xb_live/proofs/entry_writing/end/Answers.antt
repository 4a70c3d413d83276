use Rattle.std.proofs.Common.{◌≡◌, Err, ap, inl, rules, sym, ◌∙◌, subst}
use Rattle.std.specs.Io.KnownBytes.{Appends}
use Rattle.xb_text.specs.Writing.{AppendsBeginning}
use Rattle.xb_live.specs.declared.fault.EntriesFault.TheVariants.{NoMemory, Write}
use Rattle.xb_live.specs.Clocks.{styled}
use Rattle.xb_live.specs.Texts.{totals_of}
use Rattle.xb_live.specs.Writing.{Ends}
use Rattle.xb_live.proofs.Pages.{sorts_into_page}
use Rattle.xb_live.proofs.Written.{faults-end, totals-missing, totals-whole, totals-begun}
use Rattle.xb_live.proofs.entry_writing.end.Goals as goal

pub returns-in_err-close_lines : goal.returns-in_err-close_lines
returns-in_err-close_lines g c = λ clock tells rows start before.
    let wrote = c.in_err-close_lines.ensures.written clock tells rows start before in
    let fault : c.from_residual.result ≡ Err c.in_err-close_lines.field-0.0 = search rules in
    subst (λ r. Ends (styled c.args.form clock) c.args.office.now.live.table rows r start (g.W.Write.contents c.close_lines.new.out)) (sym fault)
    (faults-end (styled c.args.form clock) c.close_lines.new.office c.close_lines.new.hearings c.args.office.now.live.table rows c.in_err-close_lines.field-0.0 start _ c.close_lines.ensures.table wrote)

pub returns-in_err-text : goal.returns-in_err-text
returns-in_err-text g c = λ clock tells rows start before.
    let fault : c.from_residual-in_err-text.result ≡ Err NoMemory = search rules in
    subst (λ r. Ends (styled c.args.form clock) c.args.office.now.live.table rows r start (g.W.Write.contents c.close_lines.new.out)) (sym fault)
    (totals-missing (styled c.args.form clock) c.close_lines.new.office c.close_lines.new.hearings c.args.office.now.live.table rows start _ c.close_lines.ensures.table
    (c.in_ok-close_lines.ensures.written clock tells rows start before))

pub returns-in_err-write_whole : goal.returns-in_err-write_whole
returns-in_err-write_whole g c = λ clock tells rows start before.
    let fault : c.from_residual-in_err-write_whole.result ≡ Err Write = search rules in
    subst (λ r. Ends (styled c.args.form clock) c.args.office.now.live.table rows r start (g.W.Write.contents c.write_whole.new.out)) (sym fault)
    (inl (totals-begun (styled c.args.form clock) c.close_lines.new.office c.close_lines.new.hearings c.args.office.now.live.table rows start _ c.close_lines.ensures.table
    (c.in_ok-close_lines.ensures.written clock tells rows start before) _
    (subst (AppendsBeginning _ _) (c.as_bytes.ensures.value ∙ c.in_ok-text.ensures
    ∙ ap (λ k. totals_of c.args.form k c.refused.result) c.keyed.ensures ∙ ap (totals_of c.args.form c.close_lines.new.office.keyed) c.refused.ensures) c.write_whole.ensures.beginning)))

pub returns : goal.returns
returns g c = λ clock tells rows start before. (
  totals-whole (styled c.args.form clock) c.close_lines.new.office c.close_lines.new.hearings c.args.office.now.live.table rows start _ c.close_lines.ensures.table
      (c.in_ok-close_lines.ensures.written clock tells rows start before) _
      (subst (Appends _ _) (c.as_bytes.ensures.value ∙ c.in_ok-text.ensures
      ∙ ap (λ k. totals_of c.args.form k c.refused.result) c.keyed.ensures ∙ ap (totals_of c.args.form c.close_lines.new.office.keyed) c.refused.ensures) c.in_ok-write_whole.ensures.whole),
  sorts_into_page c.args.office.now.live.table before.counted.taken.lawful rows before.counted.lines,
)
