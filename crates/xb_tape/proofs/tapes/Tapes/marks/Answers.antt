use Rattle.std.proofs.Common.{◌<◌, length, ◌∙◌, arith}
use Rattle.xb_tape.proofs.LineLists.{line-list}
use Rattle.xb_tape.proofs.tapes.Tapes.marks.Goals as goal

pub returns-clause-value : goal.returns-clause-value
returns-clause-value c =
    let lines = c.self.inside.lines in
    let below : c.args.line < length lines = omega (arith, c.get.ensures.below, c.get.ensures.lines) in
    let marks = c.get.result.now in
    rw (← c.self.view_is) (c.deref.ensures.value ∙ line-list (λ v. v.items) lines c.args.line marks below (c.get.ensures.value marks))
