use Rattle.std.proofs.Common.{◌<◌, ◌∙◌, subst, sym, take_all}
use Rattle.std.proofs.lemmas.List.Elements.{All-more}
use Rattle.xb_model.specs.declared.digit.TheConstants.{DIGITS}
use Rattle.xb_calls.specs.Calls.{AreDigits}
use Rattle.xb_worn.proofs.lines.are_digits.Goals as goal

pub loop-digit-preserved : goal.loop-digit-preserved
loop-digit-preserved c =
    All-more (λ d. d < DIGITS) c.args.digits.now c.loop-digit.digit-index c.digit-item.result c.loop-digit-test.true
    c.loop-digit.invariant (subst (λ d. d < DIGITS) (c.get-value.ensures.value ∙ c.digit-item.is) c.get-value.ensures.below)

pub returns : goal.returns
returns c =
    subst AreDigits (take_all c.loop-digit.digit-index c.args.digits.now c.loop-digit-test.false) c.loop-digit.invariant
