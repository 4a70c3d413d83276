use Rattle.std.proofs.Common.{◌≡◌, ◌∙◌, ◌^◌, ◌+◌, ◌-◌, ◌*◌, ◌/◌, ℕ, ap, arith}
use Rattle.xb_riff.specs.Floats.{float_exponent}
use Rattle.xb_riff.proofs.FloatLemmas.{half_least, half_most, large_float, rounded_float, small_float}
use Rattle.xb_riff.proofs.float.float_magnitude.Goals as goal

pub returns-then-exponent-lt-HALF_A_STEP-clause-value :
    goal.returns-then-exponent-lt-HALF_A_STEP-clause-value
returns-then-exponent-lt-HALF_A_STEP-clause-value c =
    small_float c.args.bits (omega (arith, c.exponent_of-exponent.ensures.value, c.if-exponent-lt-HALF_A_STEP.true))

pub returns-then-exponent-ge-WHOLE-clause-value : goal.returns-then-exponent-ge-WHOLE-clause-value
returns-then-exponent-ge-WHOLE-clause-value c =
    large_float c.args.bits (omega (arith, c.exponent_of-exponent.ensures.value, c.if-exponent-ge-WHOLE.true))

pub rounded-requires-clause-least : goal.rounded-requires-clause-least
rounded-requires-clause-least c =
    omega (arith, c.pow.ensures, half_least c.exponent_of-exponent.result c.if-exponent-ge-WHOLE.false)

pub rounded-requires-clause-most : goal.rounded-requires-clause-most
rounded-requires-clause-most c =
    omega (arith, c.pow.ensures, half_most c.exponent_of-exponent.result c.if-exponent-lt-HALF_A_STEP.false)

pub returns-clause-value : goal.returns-clause-value
returns-clause-value c =
    let is = c.exponent_of-exponent.ensures.value in
    let half : c.pow.result ≡ 2 ^ (134 - float_exponent c.args.bits) =
    c.pow.ensures ∙ ap (λ (e : ℕ). 2 ^ (134 - e)) is in
    rounded_float c.args.bits c.pow.result c.rounded.result (omega (arith, is, c.if-exponent-lt-HALF_A_STEP.false))
    (omega (arith, is, c.if-exponent-ge-WHOLE.false)) half
    (c.rounded.ensures.value
    ∙ ap (λ (s : ℕ). (s + c.pow.result) / (2 * c.pow.result)) c.significand_of.ensures.value)
    c.rounded.ensures.bound
