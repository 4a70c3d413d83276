use Rattle.std.proofs.Common.{◌∙◌, [], subst, sym}
use Rattle.std.specs.Io.KnownBytes.{Appends}
use Rattle.std.proofs.lemmas.Result.{err_from_is_err_and}
use Rattle.xb_text.specs.Writing.{AppendsBeginning}
use Rattle.xb_rx.specs.Shown.{shown}
use Rattle.xb_rx.proofs.LastSteps.{none-ended}
use Rattle.xb_rx.proofs.WrittenText.{wrote-whole}
use Rattle.xb_rx.proofs.parts.Parts.close.Goals as goal

pub returns-in_err-text : goal.returns-in_err-text
returns-in_err-text g c =
    let p = err_from_is_err_and c.from_residual.result c.from_residual.ensures.1 in
    none-ended (shown c.args.self.now) [] c.from_residual.result _ _ p.1

pub returns-then-is_err : goal.returns-then-is_err
returns-then-is_err g c = (
  c.in_ok-text.ensures.0,
  subst (AppendsBeginning (g.W.Write.contents c.args.out.now) (g.W.Write.contents c.write_whole.new.out))
      (c.as_bytes.ensures.value ∙ c.in_ok-text.ensures.1) c.write_whole.ensures.beginning,
)

pub returns : goal.returns
returns g c = (
  c.in_ok-text.ensures.0,
  subst (Appends (g.W.Write.contents c.args.out.now) (g.W.Write.contents c.write_whole.new.out))
      (c.as_bytes.ensures.value ∙ c.in_ok-text.ensures.1)
      (wrote-whole c.write_whole.result c.write_whole.ensures.whole (sym c.is_err.ensures.value ∙ c.if-is_err.false)),
)
