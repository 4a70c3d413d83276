use Rattle.std.proofs.Common.{rules, ◌≡◌, ◌∙◌, ◌<◌, ◌≤◌, unsigned_abs, ℕ, ◌+◌, ◌*◌, ap, sym, subst, arith, drop, get_or, ℤ, ◌+ℤ◌, FitsSigned, to_z, of_z}
use Rattle.std.specs.Int.{w16, w32}
use Rattle.std.proofs.lemmas.Int.{to_z-of_z, fits_signed_from_abs}
use Rattle.xb_signal.specs.Waves.{chorus, scaled, wave_sample}
use Rattle.xb_signal.proofs.Waves.{chorus-next}
use Rattle.xb_signal.proofs.Sums.{sum-small}
use Rattle.xb_signal.proofs.wave.chorus.Goals as goal

pub loop-hz-preserved : goal.loop-hz-preserved
loop-hz-preserved c =
    let i = c.loop-hz.hz-index in
    let s : ℤ = to_z w32 c.loop-hz.sum-bits in
    let w = c.scaled-sum.result in
    let fits_w : FitsSigned w32 w = search rules in
    let added : s +ℤ to_z w32 (of_z w32 w) ≡ s +ℤ w = ap (λ (x : ℤ). s +ℤ x) (to_z-of_z w32 w fits_w) in
    let table : FitsSigned w16 c.wave_sample.result = search rules in
    let is_hz : c.from.result ≡ get_or c.args.tones.now i 0 = search rules in
    let value = c.scaled-sum.ensures.value
    ∙ ap (scaled c.args.amplitude) (to_z-of_z w16 c.wave_sample.result table ∙ c.wave_sample.ensures.value
    ∙ ap (λ (hz : ℕ). wave_sample hz c.args.n) is_hz) in
    let greater = sum-small s w (65535 * i) 65535 c.loop-hz.invariant.small c.scaled-sum.ensures.bound in
    let small : unsigned_abs (s +ℤ w) ≤ 65535 * (i + 1) = omega (arith, greater) in
    let few : i < 6 = omega (arith, c.loop-hz-test.true, c.requires) in
    let fits_sum : FitsSigned w32 (s +ℤ w) = fits_signed_from_abs w32 (s +ℤ w) (omega (arith, small, few)) in
    let new : to_z w32 (of_z w32 (s +ℤ to_z w32 (of_z w32 w))) ≡ s +ℤ w =
    ap (λ (x : ℤ). to_z w32 (of_z w32 x)) added ∙ to_z-of_z w32 (s +ℤ w) fits_sum in
    record {
      sum =
          ap (λ (x : ℤ). x +ℤ chorus c.args.amplitude (drop (i + 1) c.args.tones.now) c.args.n)
          (new ∙ ap (λ (x : ℤ). s +ℤ x) value)
          ∙ chorus-next c.args.amplitude c.args.tones.now i c.args.n s c.loop-hz-test.true
          ∙ c.loop-hz.invariant.sum;
      small = subst (λ (x : ℤ). unsigned_abs x ≤ 65535 * (i + 1)) (sym new) small;
    }
