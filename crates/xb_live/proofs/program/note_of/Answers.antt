use Rattle.std.proofs.Common.{◌≡◌, IfOk, string_bytes, subst}
use Rattle.xb_live.proofs.Noted.{noted-some}
use Rattle.xb_live.proofs.program.note_of.Goals as goal

pub returns : goal.returns
returns c =
    subst (λ text. IfOk c.note_line.result (λ note. string_bytes note ≡ text))
    (noted-some c.args.line c.in-Some.number c.args.given_up c.in-Some.is c.if-given_up-eq0.false) c.note_line.ensures
