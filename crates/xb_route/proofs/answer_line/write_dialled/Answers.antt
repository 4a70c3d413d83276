use Rattle.std.proofs.Common.{◌∙◌, append_assoc}
use Rattle.std.proofs.lemmas.Result.{IfOk-weaker}
use Rattle.xb_tape.proofs.PageFormats.{styled}
use Rattle.xb_route.proofs.answer_line.write_dialled.Goals as goal

pub returns : goal.returns
returns c =
    IfOk-weaker c.write.result _ _
    (λ u is. (rw (c.laid_out.ensures, styled c.get-number.result, c.get-number.ensures.value, c.in_ok-digits.ensures) at is)
    ∙ (simp append_assoc)) c.write.ensures.bytes
