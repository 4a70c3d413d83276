use Rattle.std.proofs.Common.{◌≡◌, ◌∙◌, ℕ, ◌+◌, ◌*◌, ◌/◌, ◌^◌, ◌≤◌, ap, ap₂, arith, ℤ, unsigned_abs, to_z, of_z}
use Rattle.std.specs.Int.{w64}
use Rattle.std.specs.Prelude.{slice_index_or}
use Rattle.std.proofs.lemmas.Int.{to_z-of_z, fits_signed_from_abs}
use Rattle.xb_measured.specs.Tones.{gains}
use Rattle.xb_measured.proofs.ToneSteps.{level-small}
use Rattle.xb_measured.proofs.tones.level_of.Goals as goal

as_is : (z : ℤ) → unsigned_abs z ≤ 104857600000000 → unsigned_abs (to_z w64 (of_z w64 z)) ^ 2 ≡ unsigned_abs z ^ 2
as_is z small = ap (λ (y : ℤ). unsigned_abs y ^ 2) (to_z-of_z w64 z (fits_signed_from_abs w64 z (omega (arith, small))))

pub overflow_mul-result : goal.overflow_mul-result
overflow_mul-result c =
    let gain : c.from.result ≤ 4000 = omega (arith, c.from.ensures, c.gain_at.ensures.bound) in
    let most = level-small c.square.result c.square-2.result c.square-3.result c.square-4.result c.from.result
    c.square.ensures.bound c.square-2.ensures.bound c.square-3.ensures.bound c.square-4.ensures.bound gain in
    omega (arith, most)

pub overflow_cast-result : goal.overflow_cast-result
overflow_cast-result c =
    let gain : c.from.result ≤ 4000 = omega (arith, c.from.ensures, c.gain_at.ensures.bound) in
    let most = level-small c.square.result c.square-2.result c.square-3.result c.square-4.result c.from.result
    c.square.ensures.bound c.square-2.ensures.bound c.square-3.ensures.bound c.square-4.ensures.bound gain in
    omega (arith, most)

pub returns : goal.returns
returns c =
    let a = c.square.ensures.value ∙ as_is c.args.first.cosine c.requires.first.cosine in
    let b = c.square-2.ensures.value ∙ as_is c.args.first.sine c.requires.first.sine in
    let d = c.square-3.ensures.value ∙ as_is c.args.later.cosine c.requires.later.cosine in
    let e = c.square-4.ensures.value ∙ as_is c.args.later.sine c.requires.later.sine in
    let gain : c.from.result ≡ slice_index_or gains c.args.off 0 = c.from.ensures ∙ c.gain_at.ensures.value in
    ap₂ (λ (s g : ℕ). s * g / 1280000000000000000000)
    (ap₂ (λ (s t : ℕ). s + t) (ap₂ (λ (s t : ℕ). s + t) a b) (ap₂ (λ (s t : ℕ). s + t) d e)) gain
