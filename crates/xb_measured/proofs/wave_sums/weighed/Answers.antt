use Rattle.std.proofs.Common.{◌≡◌, ◌∙◌, ap, arith, get_or, pos, rules, sym, ℕ, ℤ, ◌+ℤ◌, ◌*ℤ◌, to_z, of_z, FitsSigned}
use Rattle.std.specs.Int.{w16, w64}
use Rattle.std.proofs.lemmas.Int.{ints, to_z-of_z, fits_signed_from_abs}
use Rattle.xb_measured.specs.Waves.{wave, weights}
use Rattle.xb_measured.proofs.WaveSums.{weighed-bound, weighed-end, weighed-more, weighed-sum, weights-all}
use Rattle.xb_measured.proofs.wave_sums.weighed.Goals as goal

pub loop-x-preserved : goal.loop-x-preserved
loop-x-preserved c =
    let i = c.loop-x.x-index in
    let xs = c.args.samples.now in
    let sum : ℤ = to_z w64 c.loop-x.sum-bits in
    let p : ℤ = c.product-sum.result in
    let x : ℤ = get_or xs i (pos 0) in
    let y : ℤ = c.wave_at.result in
    let new : ℤ = to_z w64 (of_z w64 (sum +ℤ to_z w64 (of_z w64 p))) in
    let x-fits : FitsSigned w16 x = search rules in
    let y-fits : FitsSigned w16 y = fits_signed_from_abs w16 y (omega (arith, c.wave_at.ensures.bound)) in
    let weight : c.weight_at.result ≡ get_or weights i 0 =
    c.weight_at.ensures.value ∙ ap (λ (k : ℕ). get_or weights k 0) c.loop-x.invariant.place in
    let is : p ≡ pos (get_or weights i 0) *ℤ x *ℤ wave c.args.hz c.args.ahead c.loop-x.n =
    c.product-sum.ensures.value
    ∙ ap (λ (k : ℕ). pos k *ℤ to_z w16 (of_z w16 x) *ℤ to_z w16 (of_z w16 y)) weight
    ∙ ap (λ (a : ℤ). pos (get_or weights i 0) *ℤ a *ℤ to_z w16 (of_z w16 y)) (to_z-of_z w16 x x-fits)
    ∙ ap (λ (b : ℤ). pos (get_or weights i 0) *ℤ x *ℤ b) (to_z-of_z w16 y y-fits ∙ c.wave_at.ensures.value) in
    let added : new ≡ sum +ℤ p =
    weighed-sum i sum p c.loop-x.invariant.bound c.product-sum.ensures.bound (omega arith) in record {
      place = omega (arith, c.loop-x.invariant.place);
      n = omega (arith, c.loop-x.invariant.n);
      sum = weighed-more (wave c.args.hz c.args.ahead) c.loop-x.n i weights xs 0 (pos 0) sum p new _
          (omega (arith, weights-all)) c.loop-x-test.true c.loop-x.invariant.sum is added;
      bound = weighed-bound i sum p new c.loop-x.invariant.bound c.product-sum.ensures.bound added;
    }

pub returns-clause-value : goal.returns-clause-value
returns-clause-value c =
    let sum : ℤ = to_z w64 c.loop-x.sum-bits in
    let none = weighed-end (wave c.args.hz c.args.ahead) c.loop-x.n c.loop-x.x-index weights c.args.samples.now
    c.loop-x-test.false in
    let same : sum +ℤ pos 0 ≡ sum = omega (arith, ints) in
    sym same ∙ ap (λ (z : ℤ). sum +ℤ z) (sym none) ∙ c.loop-x.invariant.sum
