use Rattle.std.proofs.Common.{rules, ◌≡◌, ◌∙◌, ◌<◌, ◌≤◌, unsigned_abs, ◌+◌, ◌-◌, ◌*◌, ap, sym, subst, arith, ℤ, ◌+ℤ◌, FitsSigned, to_z, of_z}
use Rattle.std.specs.Int.{w32}
use Rattle.std.specs.List.{range_with_len}
use Rattle.std.proofs.lemmas.Int.{to_z-of_z, fits_signed_from_abs}
use Rattle.xb_signal.specs.Steadies.{harmonics}
use Rattle.xb_signal.proofs.Steadies.{harmonics-begun, harmonics-next, harmonics-over}
use Rattle.xb_signal.proofs.Sums.{sum-small}
use Rattle.xb_signal.proofs.steady.mains_sample.Goals as goal

pub loop-number-init : goal.loop-number-init
loop-number-init c = record {
  sum = harmonics-begun c.args.amplitude c.args.n;
  small = omega arith;
  begun = omega arith;
}

pub loop-number-preserved : goal.loop-number-preserved
loop-number-preserved c =
    let number = c.loop-number.number in
    let s : ℤ = to_z w32 c.loop-number.sum-bits in
    let h = c.harmonic-sum.result in
    let fits_h : FitsSigned w32 h = search rules in
    let below : number < 9 = search rules in
    let added : s +ℤ to_z w32 (of_z w32 h) ≡ s +ℤ h = ap (λ (x : ℤ). s +ℤ x) (to_z-of_z w32 h fits_h) in
    let greater = sum-small s h (65535 * (number - 1)) 65535 c.loop-number.invariant.small c.harmonic-sum.ensures.bound in
    let begun = c.loop-number.invariant.begun in
    let small : unsigned_abs (s +ℤ h) ≤ 65535 * (number + 1 - 1) = omega (arith, greater, begun) in
    let fits_sum : FitsSigned w32 (s +ℤ h) = fits_signed_from_abs w32 (s +ℤ h) (omega (arith, small, below)) in
    let new : to_z w32 (of_z w32 (s +ℤ to_z w32 (of_z w32 h))) ≡ s +ℤ h =
    ap (λ (x : ℤ). to_z w32 (of_z w32 x)) added ∙ to_z-of_z w32 (s +ℤ h) fits_sum in
    record {
      sum =
          ap (λ (x : ℤ). x +ℤ harmonics c.args.amplitude (range_with_len (number + 1) (9 - (number + 1))) c.args.n)
          (new ∙ ap (λ (x : ℤ). s +ℤ x) c.harmonic-sum.ensures.value)
          ∙ harmonics-next c.args.amplitude number c.args.n s below
          ∙ c.loop-number.invariant.sum;
      small = subst (λ (x : ℤ). unsigned_abs x ≤ 65535 * (number + 1 - 1)) (sym new) small;
      begun = omega arith;
    }

pub returns-clause-value : goal.returns-clause-value
returns-clause-value c =
    let over : 9 ≤ c.loop-number.number = search rules in
    sym (harmonics-over c.args.amplitude c.loop-number.number c.args.n (to_z w32 c.loop-number.sum-bits) over)
    ∙ c.loop-number.invariant.sum
