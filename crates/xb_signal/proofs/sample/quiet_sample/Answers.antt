use Rattle.std.proofs.Common.{rules, ◌≡◌, ◌∙◌, ◌≤◌, unsigned_abs, ℕ, ◌+◌, ap, arith, ℤ, ◌+ℤ◌, FitsSigned}
use Rattle.std.specs.Int.{w32}
use Rattle.std.proofs.lemmas.Int.{fits_signed_from_abs}
use Rattle.xb_signal.specs.OneSample.{clean_sample}
use Rattle.xb_signal.specs.Steadies.{steady_sample}
use Rattle.xb_signal.proofs.Sums.{bits-sum, sum-small}
use Rattle.xb_signal.proofs.sample.quiet_sample.Goals as goal

pub returns-clause-value : goal.returns-clause-value
returns-clause-value c =
    let setting = c.args.setting.now in
    let n = c.args.n in
    let x = c.clean_sample.result in
    let y = c.steady_sample-steady.result in
    let small : unsigned_abs (x +ℤ y) ≤ 393210 + 589815 =
    sum-small x y 393210 589815 c.clean_sample.ensures.bound c.steady_sample-steady.ensures.bound in
    let fits_x : FitsSigned w32 x = search rules in
    let fits_y : FitsSigned w32 y = search rules in
    let fits_sum : FitsSigned w32 (x +ℤ y) = fits_signed_from_abs w32 (x +ℤ y) (omega (arith, small)) in
    let place : c.from.result ≡ c.args.moment.place = search rules in
    bits-sum x y fits_x fits_y fits_sum
    ∙ ap (λ (z : ℤ). z +ℤ y) c.clean_sample.ensures.value
    ∙ ap (λ (z : ℤ). clean_sample setting c.args.moment.noise c.args.sound.now n +ℤ z) (c.steady_sample-steady.ensures.value
    ∙ ap (λ (m : ℕ). steady_sample setting.steady (m + n)) place)
