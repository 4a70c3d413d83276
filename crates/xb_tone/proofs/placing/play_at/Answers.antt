use Rattle.std.proofs.Common.{◌∙◌, Err, ap, sym, subst}
use Rattle.std.proofs.lemmas.Result.{err_from_is_err_and}
use Rattle.xb_tone.specs.Cuts.{lines_of_cuts}
use Rattle.xb_tone.specs.Placing.{DeliversAt, TellsCuts, program}
use Rattle.xb_tone.proofs.Placed.{untold}
use Rattle.xb_tone.proofs.placing.play_at.Goals as goal

pub returns-in_err-tell_cuts-clause-sound : goal.returns-in_err-tell_cuts-clause-sound
returns-in_err-tell_cuts-clause-sound g c =
    let request = c.args.request in
    let input = g.R.Read.remaining c.args.entries.now in
    let old = g.W.Write.contents c.args.out.now in
    let errors = g.E.Write.contents c.args.err.now in
    let told = g.E.Write.contents c.tell_cuts.new.err in
    let entries = c.in_ok-entries.entries.items in
    let f = c.in_err-tell_cuts.field-0.0 in
    let p = err_from_is_err_and c.from_residual-in_err-tell_cuts.result c.from_residual-in_err-tell_cuts.ensures.1 in
    subst (λ r. DeliversAt request input r old old errors told) (sym (p.1 ∙ ap Err p.2))
    (untold request input c.in_ok-text.text.items entries f old errors told c.in_ok-text.ensures.whole
    c.in_ok-entries.ensures.placed c.in_ok-entries.ensures.some c.in_ok-entries.ensures.order
    (subst (λ es. TellsCuts (lines_of_cuts program request.cadence es) (Err f) errors told) c.deref.ensures.value
    c.in_err-tell_cuts.ensures))
