use Rattle.std.proofs.Common.{◌≡◌, ap, arith, decimal, sym, ◌∙◌}
use Rattle.std.specs.Fmt.{digits}
use Rattle.xb_model.proofs.digit.Digit.name.Goals as goal

pub returns-in-0 : goal.returns-in-0
unfolding digits
returns-in-0 c = ap decimal (sym c.in-0.is ∙ c.get.ensures.value)

pub returns-in-1 : goal.returns-in-1
unfolding digits
returns-in-1 c = ap decimal (sym c.in-1.is ∙ c.get.ensures.value)

pub returns-in-2 : goal.returns-in-2
unfolding digits
returns-in-2 c = ap decimal (sym c.in-2.is ∙ c.get.ensures.value)

pub returns-in-3 : goal.returns-in-3
unfolding digits
returns-in-3 c = ap decimal (sym c.in-3.is ∙ c.get.ensures.value)

pub returns-in-4 : goal.returns-in-4
unfolding digits
returns-in-4 c = ap decimal (sym c.in-4.is ∙ c.get.ensures.value)

pub returns-in-5 : goal.returns-in-5
unfolding digits
returns-in-5 c = ap decimal (sym c.in-5.is ∙ c.get.ensures.value)

pub returns-in-6 : goal.returns-in-6
unfolding digits
returns-in-6 c = ap decimal (sym c.in-6.is ∙ c.get.ensures.value)

pub returns-in-7 : goal.returns-in-7
unfolding digits
returns-in-7 c = ap decimal (sym c.in-7.is ∙ c.get.ensures.value)

pub returns-in-8 : goal.returns-in-8
unfolding digits
returns-in-8 c = ap decimal (sym c.in-8.is ∙ c.get.ensures.value)

pub returns-in_default : goal.returns-in_default
unfolding digits
returns-in_default c =
    let nine : 9 ≡ c.args.self = omega (arith, c.get.ensures.value, c.get.ensures.below) in
    ap decimal nine
