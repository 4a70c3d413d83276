use Rattle.std.proofs.Common.{◌≡◌, ◌∙◌, ◌++◌, Result, subst, sym}
use Rattle.std.specs.Io.KnownBytes.{Appends}
use Rattle.std.proofs.lemmas.Result.{err_from_is_err_and}
use Rattle.xb_text.specs.Writing.{AppendsBeginning}
use Rattle.xb_measured.specs.Receivers.{listed}
use Rattle.xb_rx.specs.declared.page.PageFault.{PageFault}
use Rattle.xb_rx.specs.Listeners.{quiet_text}
use Rattle.xb_rx.specs.Pages.{Ends}
use Rattle.xb_rx.proofs.WrittenText.{none-written, wrote-whole}
use Rattle.xb_rx.proofs.listener.Listener.tell.Goals as goal

pub returns-in_err-text : goal.returns-in_err-text
returns-in_err-text g c = λ samples keys has.
    let p = err_from_is_err_and c.from_residual.result c.from_residual.ensures.1 in
    subst (λ (r : Result (Unit {0}) PageFault). Ends (quiet_text samples (keys ++ listed c.args.last)) r
    (g.E.Write.contents c.args.err.now) (g.E.Write.contents c.args.err.now)) (sym p.1)
    (none-written (g.E.Write.contents c.args.err.now) (quiet_text samples (keys ++ listed c.args.last)))

pub returns-then-is_err : goal.returns-then-is_err
returns-then-is_err g c = λ samples keys has.
    let text : c.as_bytes.result.now ≡ quiet_text samples (keys ++ listed c.args.last) =
    c.as_bytes.ensures.value ∙ c.in_ok-text.ensures samples keys has in
    subst (AppendsBeginning (g.E.Write.contents c.args.err.now) (g.E.Write.contents c.write_whole.new.out)) text
    c.write_whole.ensures.beginning

pub returns : goal.returns
returns g c = λ samples keys has.
    let text : c.as_bytes.result.now ≡ quiet_text samples (keys ++ listed c.args.last) =
    c.as_bytes.ensures.value ∙ c.in_ok-text.ensures samples keys has in
    subst (Appends (g.E.Write.contents c.args.err.now) (g.E.Write.contents c.write_whole.new.out)) text
    (wrote-whole c.write_whole.result c.write_whole.ensures.whole (sym c.is_err.ensures.value ∙ c.if-is_err.false))
