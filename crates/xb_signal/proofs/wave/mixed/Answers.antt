use Rattle.std.proofs.Common.{◌≡◌, ◌∙◌, ◌≤◌, ◌*◌, ℕ, ◌+◌, List, ◌∷◌, ap, sym, arith, length, rules, ℤ, ◌+ℤ◌, FitsSigned, unsigned_abs}
use Rattle.std.specs.Int.{w16, w32}
use Rattle.std.proofs.lemmas.Int.{to_z-of_z, fits_signed_from_abs}
use Rattle.xb_signal.specs.Waves.{mixed, scaled, wave_sample}
use Rattle.xb_signal.proofs.Sums.{bits-sum, sum-small}
use Rattle.xb_signal.proofs.wave.mixed.Goals as goal

pub returns-in-Some-clause-value : goal.returns-in-Some-clause-value
returns-in-Some-clause-value c =
    let x = c.scaled.result in
    let y = c.chorus.result in
    let tones = c.args.tones.now in
    let parts : tones ≡ c.in-Some.first.now ∷ c.in-Some.further.now = search rules in
    let few : length c.in-Some.further.now ≤ 5 = search rules in
    let small : unsigned_abs (x +ℤ y) ≤ 65535 + 65535 * length c.in-Some.further.now =
    sum-small x y 65535 (65535 * length c.in-Some.further.now) c.scaled.ensures.bound c.chorus.ensures.bound in
    let is_first : c.from.result ≡ c.in-Some.first.now = search rules in
    let table : FitsSigned w16 c.wave_sample.result = search rules in
    let fits_x : FitsSigned w32 x = search rules in
    let fits_y : FitsSigned w32 y = search rules in
    let fits_sum : FitsSigned w32 (x +ℤ y) = fits_signed_from_abs w32 (x +ℤ y) (omega (arith, small, few)) in
    bits-sum x y fits_x fits_y fits_sum
    ∙ ap (λ (z : ℤ). z +ℤ y) c.scaled.ensures.value
    ∙ ap (λ (z : ℤ). scaled c.args.low z +ℤ y) (to_z-of_z w16 c.wave_sample.result table ∙ c.wave_sample.ensures.value)
    ∙ ap (λ (hz : ℕ). scaled c.args.low (wave_sample hz c.args.n) +ℤ y) is_first
    ∙ ap (λ (z : ℤ). scaled c.args.low (wave_sample c.in-Some.first.now c.args.n) +ℤ z) c.chorus.ensures.value
    ∙ ap (λ (xs : List ℕ). mixed c.args.low c.args.high xs c.args.n) (sym parts)
