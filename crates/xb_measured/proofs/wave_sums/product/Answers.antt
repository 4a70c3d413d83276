use Rattle.std.proofs.Common.{◌∙◌, ◌≤◌, arith, rules, subst, sym, ℤ, unsigned_abs, FitsSigned}
use Rattle.std.specs.Int.{w16}
use Rattle.std.proofs.lemmas.Int.{ints, to_z-of_z}
use Rattle.xb_measured.proofs.WaveSums.{product-fits, product-is, product-small}
use Rattle.xb_measured.proofs.wave_sums.product.Goals as goal

pub overflow_mul-result-2 : goal.overflow_mul-result-2
overflow_mul-result-2 c =
    let x : ℤ = c.args.x in
    let y : ℤ = c.args.y in
    let x-fits : FitsSigned w16 x = search rules in
    let y-fits : FitsSigned w16 y = search rules in
    product-fits c.args.weight x y c.from.result c.from-2.result c.from-3.result c.requires.heavy (omega (arith, ints, x-fits))
    c.requires.high c.from.ensures (c.from-2.ensures ∙ to_z-of_z w16 x x-fits) (c.from-3.ensures ∙ to_z-of_z w16 y y-fits)

pub returns-clause-value : goal.returns-clause-value
returns-clause-value c =
    let x : ℤ = c.args.x in
    let y : ℤ = c.args.y in
    let x-fits : FitsSigned w16 x = search rules in
    let y-fits : FitsSigned w16 y = search rules in
    product-is c.args.weight x y c.from.result c.from-2.result c.from-3.result c.requires.heavy (omega (arith, ints, x-fits))
    c.requires.high c.from.ensures (c.from-2.ensures ∙ to_z-of_z w16 x x-fits) (c.from-3.ensures ∙ to_z-of_z w16 y y-fits)

pub returns-clause-bound : goal.returns-clause-bound
returns-clause-bound c =
    let x : ℤ = c.args.x in
    let y : ℤ = c.args.y in
    let x-fits : FitsSigned w16 x = search rules in
    let y-fits : FitsSigned w16 y = search rules in
    subst (λ (z : ℤ). unsigned_abs z ≤ 655360000000)
    (sym (product-is c.args.weight x y c.from.result c.from-2.result c.from-3.result c.requires.heavy (omega (arith, ints, x-fits))
    c.requires.high c.from.ensures (c.from-2.ensures ∙ to_z-of_z w16 x x-fits) (c.from-3.ensures ∙ to_z-of_z w16 y y-fits)))
    (product-small c.args.weight x y c.requires.heavy (omega (arith, ints, x-fits)) c.requires.high)
