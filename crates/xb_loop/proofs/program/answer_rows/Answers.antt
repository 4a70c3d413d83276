use Rattle.std.proofs.Common.{ℕ, List, string_bytes, subst}
use Rattle.xb_loop.specs.Program.{TellsOfBounces}
use Rattle.xb_loop.proofs.Attended.{told_or_not}
use Rattle.xb_loop.proofs.program.answer_rows.Goals as goal

pub returns-in-Ok : goal.returns-in-Ok
returns-in-Ok g c =
    let T : List ℕ → Type 0 = λ told. TellsOfBounces c.args.program.now.name.now told
    (g.E.Write.contents c.args.err.now) (g.E.Write.contents c.tell_bounces.new.err) c.tell_bounces.result in
    told_or_not c.args.program.now.name.now (g.F.Files.bytes c.args.files.now) c.args.request (string_bytes c.in-Ok.told) _ _ _
    c.in-Ok.ensures.some c.in-Ok.ensures.prints (subst T c.deref.ensures c.tell_bounces.ensures)
