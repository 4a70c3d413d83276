use Rattle.std.proofs.Common.{◌≡◌, ◌∙◌, ℕ, ◌+◌, ◌^◌, ◌≤◌, ap, ap₂, arith, ℤ, unsigned_abs, to_z, of_z}
use Rattle.std.specs.Int.{w64}
use Rattle.std.proofs.lemmas.Int.{to_z-of_z, fits_signed_from_abs}
use Rattle.xb_measured.specs.declared.wave_sums.Sums.{Sums}
use Rattle.xb_measured.proofs.onsets.level_in.Goals as goal

as_is : (z : ℤ) → unsigned_abs z ≤ 104857600000000 → unsigned_abs (to_z w64 (of_z w64 z)) ^ 2 ≡ unsigned_abs z ^ 2
as_is z small = ap (λ (y : ℤ). unsigned_abs y ^ 2) (to_z-of_z w64 z (fits_signed_from_abs w64 z (omega (arith, small))))

pub returns-clause-value : goal.returns-clause-value
returns-clause-value c =
    let sums : Sums = c.sums_of-sums.result in
    ap₂ (λ (s t : ℕ). s + t)
    (c.square.ensures.value ∙ as_is sums.cosine c.sums_of-sums.ensures.cosine)
    (c.square-2.ensures.value ∙ as_is sums.sine c.sums_of-sums.ensures.sine)
    ∙ ap (λ (s : Sums). unsigned_abs s.cosine ^ 2 + unsigned_abs s.sine ^ 2) c.sums_of-sums.ensures.value
