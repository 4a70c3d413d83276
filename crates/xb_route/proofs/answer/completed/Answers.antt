use Rattle.std.proofs.Common.{◌≡◌, Some, sym, rules}
use Rattle.xb_model.specs.Plans.{plan_len}
use Rattle.xb_route.proofs.Completing.{completes, completes_none}
use Rattle.xb_route.proofs.answer.completed.Goals as goal

pub returns-then-len-digits : goal.returns-then-len-digits
returns-then-len-digits c =
    let len : plan_len c.args.plan c.args.digits.now ≡ Some c.from-len.result = search rules in
    let done = completes c.args.plan c.args.digits.now c.from-len.result len c.if-len-digits.true in
    let number = done.number in
    let few = done.few in
    search rules

pub returns-else-len-digits : goal.returns-else-len-digits
returns-else-len-digits c =
    let len : plan_len c.args.plan c.args.digits.now ≡ Some c.from-len.result = search rules in
    sym (completes_none c.args.plan c.args.digits.now c.from-len.result len c.if-len-digits.false)
