use Rattle.std.proofs.Common.{rules, ◌≡◌, ◌∙◌, ◌≤◌, unsigned_abs, ℕ, ◌+◌, Bool, cond, ap, sym, arith, ℤ, pos, ◌+ℤ◌, FitsSigned}
use Rattle.std.specs.Int.{w16, w32}
use Rattle.std.proofs.lemmas.Int.{to_z-of_z, fits_signed_from_abs}
use Rattle.xb_signal.specs.declared.key_sample.Starts.{Starts}
use Rattle.xb_signal.specs.Shapes.{late_sample, starts_of, tuned}
use Rattle.xb_signal.specs.Waves.{scaled}
use Rattle.xb_signal.proofs.Sums.{bits-sum, sum-small}
use Rattle.xb_signal.proofs.key_sample.keyed_sample.Goals as goal

pub returns-clause-value : goal.returns-clause-value
returns-clause-value c =
    let low = c.args.low in
    let high = c.args.high in
    let shape = c.args.shape.now in
    let n = c.args.n in
    let x = c.scaled.result in
    let y = c.scaled-2.result in
    let late_low = c.late_sample-low_sample.result in
    let late_high = c.late_sample-high_sample.result in
    let both : ℤ = x +ℤ y in
    let fits_low : FitsSigned w16 late_low = search rules in
    let fits_high : FitsSigned w16 late_high = search rules in
    let fits_x : FitsSigned w32 x = search rules in
    let fits_y : FitsSigned w32 y = search rules in
    let small : unsigned_abs (x +ℤ y) ≤ 65535 + 65535 =
    sum-small x y 65535 65535 c.scaled.ensures.bound c.scaled-2.ensures.bound in
    let fits_sum : FitsSigned w32 (x +ℤ y) = fits_signed_from_abs w32 (x +ℤ y) (omega (arith, small)) in
    let low_hz : ℕ = tuned shape.pitch c.args.pair.low in
    let high_hz : ℕ = tuned shape.pitch c.args.pair.high in
    let starts : Starts = starts_of shape c.args.state in
    let is_x : x ≡ scaled low (late_sample shape.low_late_ms starts.low low_hz n) =
    c.scaled.ensures.value
    ∙ ap (scaled low) (to_z-of_z w16 late_low fits_low ∙ c.late_sample-low_sample.ensures.value)
    ∙ ap (λ (hz : ℕ). scaled low (late_sample shape.low_late_ms c.starts_of-starts.result.low hz n)) c.tuned-low_hz.ensures
    ∙ ap (λ (s : Starts). scaled low (late_sample shape.low_late_ms s.low low_hz n)) c.starts_of-starts.ensures in
    let is_y : y ≡ scaled high (late_sample shape.high_late_ms starts.high high_hz n) =
    c.scaled-2.ensures.value
    ∙ ap (scaled high) (to_z-of_z w16 late_high fits_high ∙ c.late_sample-high_sample.ensures.value)
    ∙ ap (λ (hz : ℕ). scaled high (late_sample shape.high_late_ms c.starts_of-starts.result.high hz n)) c.tuned-high_hz.ensures
    ∙ ap (λ (s : Starts). scaled high (late_sample shape.high_late_ms s.high high_hz n)) c.starts_of-starts.ensures in
    let sum : ℤ = scaled low (late_sample shape.low_late_ms starts.low low_hz n)
    +ℤ scaled high (late_sample shape.high_late_ms starts.high high_hz n) in
    bits-sum x y fits_x fits_y fits_sum
    ∙ ap (λ (z : ℤ). z +ℤ y) is_x
    ∙ ap (λ (z : ℤ). scaled low (late_sample shape.low_late_ms starts.low low_hz n) +ℤ z) is_y
    ∙ sym (ap (λ (b : Bool). cond b (pos 0) sum) (sym c.is_in_hole.ensures ∙ c.if-is_in_hole.false))
