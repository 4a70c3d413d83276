-- Keys that nothing disturbs.
use Rattle.std.proofs.Common.{◌≡◌, ◌∙◌, ℕ, suc, ◌+◌, ◌-◌, ◌*◌, ◌%◌, Bool, true, false, ◌&&◌, cond, [], ◌∷◌, ap, arith, refl, ℤ, pos, ◌+ℤ◌}
use Rattle.std.specs.Prelude.{nat_le, nat_lt}
use Rattle.std.proofs.lemmas.Bool.{leb-true, lt-leb}
use Rattle.std.proofs.lemmas.Int.{ints}
use Rattle.std.proofs.lemmas.Nat.{div-mul-add}
use Rattle.xb_model.specs.declared.key.Tone.{Tone as Pair}
use Rattle.xb_signal.specs.declared.shape.Shape.{Shape}
use Rattle.xb_signal.specs.Shapes.{keyed_sample, late_sample, tuned, wave_from}
use Rattle.xb_signal.specs.SignalLaws.{PlainKeysAreWritten}
use Rattle.xb_signal.specs.Waves.{mixed, scaled, wave_at, wave_sample}

-- at a pitch of 1,000 a frequency is as it is named
tuned-itself : (hz : ℕ) → tuned 1000 hz ≡ hz
tuned-itself hz = div-mul-add hz 1000 500 (omega arith)

never-below : (n : ℕ) → nat_lt n 0 ≡ false
never-below n = lt-leb (suc n) 0 (omega arith)

-- a tone that begins 0 ms late begins at once
not-late : (hz n : ℕ) → late_sample 0 0 hz n ≡ wave_sample hz n
not-late hz n =
    let all : n - 0 ≡ n = omega arith in
    let from : 0 + hz * n ≡ hz * n = omega arith in
    ap (λ (b : Bool). cond b (pos 0) (wave_from 0 hz (n - 0))) (never-below n)
    ∙ ap (wave_from 0 hz) all
    ∙ ap (λ (m : ℕ). wave_at (m % 8000)) from

-- no sample lies in a hole of 0 ms
no-hole : (from n : ℕ) → (nat_le (from * 8) n && nat_lt n ((from + 0) * 8)) ≡ false
no-hole from n = by (nat_le (from * 8) n) refl
  where
    by : (begun : Bool) → nat_le (from * 8) n ≡ begun → (begun && nat_lt n ((from + 0) * 8)) ≡ false
    by false is = refl
    by true is = lt-leb (suc n) ((from + 0) * 8) (omega (arith, leb-true (from * 8) n is))

plus-none : (x : ℤ) → x ≡ x +ℤ pos 0
plus-none x = omega (arith, ints)

abbrev plain_shape : ℕ → Shape
plain_shape from = record {
  pitch = 1000;
  low_late_ms = 0;
  high_late_ms = 0;
  hole_from_ms = from;
  hole_ms = 0;
  is_drawn = false;
}

keyed-plain : (low high from state : ℕ) (pair : Pair) (n : ℕ)
    → keyed_sample low high (plain_shape from) state pair n ≡ mixed low high (pair.low ∷ pair.high ∷ []) n
keyed-plain low high from state pair n =
    let tone : ℕ → ℕ → ℤ = λ amplitude hz. scaled amplitude (late_sample 0 0 (tuned 1000 hz) n) in
    let plain : (amplitude hz : ℕ) → tone amplitude hz ≡ scaled amplitude (wave_sample hz n) =
    λ amplitude hz. ap (scaled amplitude) (not-late (tuned 1000 hz) n
    ∙ ap (λ (f : ℕ). wave_sample f n) (tuned-itself hz)) in
    ap (λ (b : Bool). cond b (pos 0) (tone low pair.low +ℤ tone high pair.high)) (no-hole from n)
    ∙ ap (λ (x : ℤ). x +ℤ tone high pair.high) (plain low pair.low)
    ∙ ap (λ (x : ℤ). scaled low (wave_sample pair.low n) +ℤ x)
    (plain high pair.high ∙ plus-none (scaled high (wave_sample pair.high n)))

pub plain_keys_are_written : PlainKeysAreWritten
plain_keys_are_written setting state pair n plain =
    let shape = setting.shape in
    let of : ℕ → ℕ → ℕ → ℕ → Bool → Shape =
    λ pitch low high hole is_drawn. record {
      pitch = pitch;
      low_late_ms = low;
      high_late_ms = high;
      hole_from_ms = shape.hole_from_ms;
      hole_ms = hole;
      is_drawn = is_drawn;
    } in
    let key : Shape → ℤ = λ s. keyed_sample setting.low setting.high s state pair n in
    ap (λ (m : ℕ). key (of m shape.low_late_ms shape.high_late_ms shape.hole_ms shape.is_drawn)) plain.pitch
    ∙ ap (λ (m : ℕ). key (of 1000 m shape.high_late_ms shape.hole_ms shape.is_drawn)) plain.low
    ∙ ap (λ (m : ℕ). key (of 1000 0 m shape.hole_ms shape.is_drawn)) plain.high
    ∙ ap (λ (m : ℕ). key (of 1000 0 0 m shape.is_drawn)) plain.hole
    ∙ ap (λ (b : Bool). key (of 1000 0 0 0 b)) plain.start
    ∙ keyed-plain setting.low setting.high shape.hole_from_ms state pair n
