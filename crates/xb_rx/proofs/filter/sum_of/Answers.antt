use Rattle.std.proofs.Common.{◌≡◌, ◌∙◌, ◌≤◌, ◌<◌, ◌+◌, ◌*◌, ◌/◌, ℕ, suc, List, ap, ap₂, add-one, get_or, refl, arith, rules, suc-mul, ℤ, pos, ◌+ℤ◌, ◌*ℤ◌, unsigned_abs, to_z, of_z, FitsSigned}
use Rattle.std.specs.Int.{w16, w64}
use Rattle.std.proofs.lemmas.Int.{ints, to_z-of_z, fits_signed_from_abs}
use Rattle.std.proofs.Math.Nat.{mul-le-mul_right, mul_assoc, mul_comm}
use Rattle.std.proofs.Math.Nat.{div-mul-le_self, le-div_iff_mul-le}
use Rattle.xb_rx.specs.Samples.{sum_of, weight}
use Rattle.xb_rx.proofs.filter.sum_of.Goals as goal

none : (frames : ℕ) (samples : List ℤ) → pos 0 ≡ sum_of frames 0 samples
unfolding sum_of
none frames samples = refl

-- a sample more
more : (frames n : ℕ) (samples : List ℤ)
    → sum_of frames n samples +ℤ get_or samples n (pos 0) *ℤ weight frames n ≡ sum_of frames (n + 1) samples
unfolding sum_of
more frames n samples = rw add-one refl

-- each sample has a weight
weight-there : (frames n : ℕ) → 1 ≤ frames → frames ≤ 24 → n < 8 * frames → n * (24 / frames) < 192
weight-there frames n one most below =
    let step = 24 / frames in
    let few : step * frames ≤ 24 = div-mul-le_self 24 frames in
    let least : 1 ≤ step = (le-div_iff_mul-le one).1 (omega (arith, most)) in
    let some : suc n * step ≤ (8 * frames) * step = mul-le-mul_right step (omega (arith, below)) in
    let all : (8 * frames) * step ≡ 8 * (step * frames) =
    mul_assoc 8 frames step ∙ ap (λ (m : ℕ). 8 * m) (mul_comm frames step) in
    omega (arith, some, all, few, least, suc-mul n step)

-- no sum wraps
bound-more : (n : ℕ) (sum p new : ℤ) → unsigned_abs sum ≤ 302940160 * n → unsigned_abs p ≤ 302940160
    → new ≡ sum +ℤ p → unsigned_abs new ≤ 302940160 * (n + 1)
bound-more n sum p new so_far one added = omega (arith, ints)

sum-is : (n : ℕ) (sum p : ℤ) → unsigned_abs sum ≤ 302940160 * n → unsigned_abs p ≤ 302940160 → n < 192
    → to_z w64 (of_z w64 (sum +ℤ to_z w64 (of_z w64 p))) ≡ sum +ℤ p
sum-is n sum p so_far one below =
    let all : unsigned_abs (sum +ℤ p) ≤ 302940160 * (n + 1) = bound-more n sum p (sum +ℤ p) so_far one refl in
    ap (λ (z : ℤ). to_z w64 (of_z w64 (sum +ℤ z))) (to_z-of_z w64 p (fits_signed_from_abs w64 p (omega arith)))
    ∙ to_z-of_z w64 (sum +ℤ p) (fits_signed_from_abs w64 (sum +ℤ p) (omega arith))

pub weight_at-requires : goal.weight_at-requires
weight_at-requires c =
    weight-there c.args.frames c.loop-n.n c.requires.one c.requires.most (omega (arith, c.loop-n-test.true, c.requires.length))

pub loop-n-init : goal.loop-n-init
loop-n-init c = record { sum_is = none c.args.frames c.args.window.now; bound = omega arith }

pub loop-n-preserved : goal.loop-n-preserved
loop-n-preserved c =
    let frames = c.args.frames in
    let samples = c.args.window.now in
    let n : ℕ = c.loop-n.n in
    let sum : ℤ = to_z w64 c.loop-n.sum-bits in
    let x : ℤ = get_or samples n (pos 0) in
    let y : ℤ = c.weight_at.result in
    let p : ℤ = c.weighed-sum.result in
    let x-fits : FitsSigned w16 x = search rules in
    let y-fits : FitsSigned w16 y = fits_signed_from_abs w16 y (omega (arith, c.weight_at.ensures.bound)) in
    let is : p ≡ x *ℤ weight frames n =
    c.weighed-sum.ensures.value
    ∙ ap₂ (λ (a b : ℤ). a *ℤ b) (to_z-of_z w16 x x-fits) (to_z-of_z w16 y y-fits ∙ c.weight_at.ensures.value) in
    let few : n < 192 = omega (arith, c.loop-n-test.true, c.requires.length, c.requires.most) in
    let added : to_z w64 (of_z w64 (sum +ℤ to_z w64 (of_z w64 p))) ≡ sum +ℤ p =
    sum-is n sum p c.loop-n.invariant.bound c.weighed-sum.ensures.bound few in record {
      sum_is = added ∙ ap₂ (λ (a b : ℤ). a +ℤ b) c.loop-n.invariant.sum_is is ∙ more frames n samples;
      bound = bound-more n sum p _ c.loop-n.invariant.bound c.weighed-sum.ensures.bound added;
    }
