use Rattle.std.proofs.Common.{◌≡◌, ◌∙◌, ◌≤◌, ◌+ℤ◌, ◌*ℤ◌, ap₂, arith, ℤ, unsigned_abs, to_z, of_z}
use Rattle.std.specs.Int.{w64}
use Rattle.std.proofs.lemmas.Int.{to_z-of_z, fits_signed_from_abs}
use Rattle.xb_measured.proofs.ToneSteps.{wide-sum}
use Rattle.xb_measured.proofs.tones.along.Goals as goal

as_is : (z : ℤ) → unsigned_abs z ≤ 104857600000000 → to_z w64 (of_z w64 z) ≡ z
as_is z small = to_z-of_z w64 z (fits_signed_from_abs w64 z (omega (arith, small)))

pub returns : goal.returns
returns c = record {
  value = wide-sum c.product.result c.product-2.result c.product.ensures.bound c.product-2.ensures.bound
      ∙ ap₂ (λ (a b : ℤ). a +ℤ b)
      (c.product.ensures.value
      ∙ ap₂ (λ (a b : ℤ). a *ℤ b) (as_is c.args.first.cosine c.requires.first.cosine)
      (as_is c.args.later.cosine c.requires.later.cosine))
      (c.product-2.ensures.value
      ∙ ap₂ (λ (a b : ℤ). a *ℤ b) (as_is c.args.first.sine c.requires.first.sine)
      (as_is c.args.later.sine c.requires.later.sine));
}
