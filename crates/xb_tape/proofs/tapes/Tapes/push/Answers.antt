use Rattle.std.proofs.Common.{◌<◌, ◌∙◌, ap, length, arith, rules}
use Rattle.std.proofs.Math.Seq.{map-set_same}
use Rattle.xb_tape.proofs.LineLists.{line-push}
use Rattle.xb_tape.proofs.tapes.Tapes.push.Goals as goal

pub returns-in_err-push-clause-err : goal.returns-in_err-push-clause-err
returns-in_err-push-clause-err c =
    let list = c.get_mut.result.now in
    let same_items = c.in_err-push.ensures.items ∙ ap (λ v. v.items) (c.get_mut.ensures.value list) in
    let same = map-set_same (λ v. v.items) c.self.inside.lines c.args.mark.line c.push.new.self list same_items in
    rw (← c.self.view_is) (search rules)

pub returns-clause-ok : goal.returns-clause-ok
returns-clause-ok c =
    let lines = c.self.inside.lines in
    let line = c.args.mark.line in
    let list = c.get_mut.result.now in
    let below : line < length lines = omega (arith, c.get_mut.ensures.below, c.get_mut.ensures.lines) in
    rw (← c.self.view_is)
    (line-push (λ v. v.items) lines line list c.push.new.self c.args.mark.what below (c.get_mut.ensures.value list) c.in_ok-push.ensures.items)
