use Rattle.std.proofs.Common.{◌≡◌, ◌∙◌, ◌≤◌, ◌-ℤ◌, ◌*ℤ◌, ap₂, arith, subst, sym, ℤ, unsigned_abs, to_z, of_z, FitsSigned}
use mir.Syntax.{w128}
use Rattle.std.specs.Int.{w64}
use Rattle.std.proofs.lemmas.Int.{to_z-of_z, fits_signed_from_abs}
use Rattle.xb_measured.proofs.ToneSteps.{both-kept, difference-small, wide-difference}
use Rattle.xb_measured.proofs.tones.across.Goals as goal

as_is : (z : ℤ) → unsigned_abs z ≤ 104857600000000 → to_z w64 (of_z w64 z) ≡ z
as_is z small = to_z-of_z w64 z (fits_signed_from_abs w64 z (omega (arith, small)))

pub overflow_sub-result : goal.overflow_sub-result
overflow_sub-result c =
    let p : ℤ = c.product.result in
    let q : ℤ = c.product-2.result in
    subst (λ (z : ℤ). FitsSigned w128 z) (sym (both-kept p q c.product.ensures.bound c.product-2.ensures.bound))
    (let below = difference-small p q c.product.ensures.bound c.product-2.ensures.bound in
    fits_signed_from_abs w128 (p -ℤ q) (omega (arith, below)))

pub returns-clause-value : goal.returns-clause-value
returns-clause-value c =
    wide-difference c.product.result c.product-2.result c.product.ensures.bound c.product-2.ensures.bound
    ∙ ap₂ (λ (a b : ℤ). a -ℤ b)
    (c.product.ensures.value
    ∙ ap₂ (λ (a b : ℤ). a *ℤ b) (as_is c.args.first.sine c.requires.first.sine)
    (as_is c.args.later.cosine c.requires.later.cosine))
    (c.product-2.ensures.value
    ∙ ap₂ (λ (a b : ℤ). a *ℤ b) (as_is c.args.first.cosine c.requires.first.cosine)
    (as_is c.args.later.sine c.requires.later.sine))

pub returns-clause-bound : goal.returns-clause-bound
returns-clause-bound c =
    subst (λ (z : ℤ). unsigned_abs z ≤ 21990232555520000000000000000)
    (sym (wide-difference c.product.result c.product-2.result c.product.ensures.bound c.product-2.ensures.bound))
    (difference-small c.product.result c.product-2.result c.product.ensures.bound c.product-2.ensures.bound)
