use Rattle.std.proofs.Common.{◌∙◌, ◌*◌, ◌/◌, ℕ, ℤ, ap, ap₂, arith, rules, unsigned_abs, FitsSigned}
use mir.Syntax.{w128}
use Rattle.std.proofs.lemmas.Int.{ints, to_z-of_z}
use Rattle.xb_measured.specs.Levels.{count_up_to}
use Rattle.xb_measured.specs.Tones.{tangents}
use Rattle.xb_measured.proofs.ToneSteps.{off-is}
use Rattle.xb_measured.proofs.tones.off_of.Goals as goal

pub returns-clause-value : goal.returns-clause-value
unfolding tangents
returns-clause-value c =
    let x : ℤ = c.args.along in
    let y : ℤ = c.args.across in
    let x-fits : FitsSigned w128 x = search rules in
    let y-fits : FitsSigned w128 y = search rules in
    c.count_up_to.ensures.value
    ∙ ap₂ (λ (a b : ℕ). count_up_to (10000 * a / b) tangents)
    (c.unsigned_abs.ensures.value ∙ ap (λ (z : ℤ). unsigned_abs z) (to_z-of_z w128 y y-fits))
    (c.unsigned_abs-2.ensures.value ∙ ap (λ (z : ℤ). unsigned_abs z) (to_z-of_z w128 x x-fits))
    ∙ off-is x y (omega (arith, ints, c.if-along-le0.false))
