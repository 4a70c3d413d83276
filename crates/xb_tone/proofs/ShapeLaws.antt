-- How a key sounds that is disturbed.
use Rattle.std.proofs.Common.{◌≡◌, ◌∙◌, ℕ, suc, ◌+◌, ◌-◌, ◌*◌, ◌/◌, ◌%◌, ◌≤◌, ◌<◌, Bool, true, false, ◌&&◌, cond, ap, arith, le-leb, refl, sym, ℤ, pos, ◌+ℤ◌}
use Rattle.std.specs.Prelude.{nat_le, nat_lt}
use Rattle.std.proofs.lemmas.Bool.{leb-true, lt-leb}
use Rattle.std.proofs.lemmas.Int.{ints}
use Rattle.xb_model.specs.declared.key.Tone.{Tone as Pair}
use Rattle.xb_signal.specs.declared.setting.Setting.{Setting}
use Rattle.xb_signal.specs.declared.shape.Shape.{Shape}
use Rattle.xb_signal.specs.Shapes.{is_in_hole, keyed_sample, late_sample, starts_of, tuned, wave_from}
use Rattle.xb_signal.specs.Waves.{scaled, wave_at, wave_sample}
use Rattle.xb_tone.specs.ShapeLaws.{HolesAreSilent, IsUnbroken, LateTonesWait, ShapesAreSounded, TunesToTheNearest, key_sample}

-- a quotient that is rounded, a half up
nearest : (product : ℕ) → (1000 * ((product + 500) / 1000) ≤ product + 500)
    × (product < 1000 * ((product + 500) / 1000) + 500)
nearest product = (omega arith, omega arith)

tunes : (pitch hz : ℕ) → TunesToTheNearest pitch hz
tunes pitch hz = let n = nearest (hz * pitch) in record { not_above = n.0; not_below = n.1 }

-- both tones of a key
abbrev both : ℕ → ℕ → Shape → ℕ → Pair → ℕ → ℤ
both low high shape state pair n =
    scaled low (late_sample shape.low_late_ms (starts_of shape state).low (tuned shape.pitch pair.low) n)
    +ℤ scaled high (late_sample shape.high_late_ms (starts_of shape state).high (tuned shape.pitch pair.high) n)

in-hole : (low high : ℕ) (shape : Shape) (state : ℕ) (pair : Pair) (n : ℕ) → is_in_hole shape n ≡ true
    → keyed_sample low high shape state pair n ≡ pos 0
in-hole low high shape state pair n is = ap (λ (b : Bool). cond b (pos 0) (both low high shape state pair n)) is

outside : (low high : ℕ) (shape : Shape) (state : ℕ) (pair : Pair) (n : ℕ) → is_in_hole shape n ≡ false
    → keyed_sample low high shape state pair n ≡ both low high shape state pair n
outside low high shape state pair n is = ap (λ (b : Bool). cond b (pos 0) (both low high shape state pair n)) is

-- whether a number is one from the first up to the end
inside : (first end n : ℕ) → first ≤ n → n < end → (nat_le first n && nat_lt n end) ≡ true
inside first end n after before =
    ap (λ (b : Bool). b && nat_lt n end) (le-leb first n after) ∙ le-leb (suc n) end (omega (arith, before))

sooner : (first end n : ℕ) → n < first → (nat_le first n && nat_lt n end) ≡ false
sooner first end n before = ap (λ (b : Bool). b && nat_lt n end) (lt-leb first n before)

and-false : (b c : Bool) → c ≡ false → (b && c) ≡ false
and-false false c is = refl
and-false true c is = is

later : (first end n : ℕ) → end ≤ n → (nat_le first n && nat_lt n end) ≡ false
later first end n after = and-false (nat_le first n) (nat_lt n end) (lt-leb (suc n) end (omega (arith, after)))

-- no sample lies in a hole of 0 ms
no-hole : (from ms n : ℕ) → ms ≡ 0 → (nat_le (from * 8) n && nat_lt n ((from + ms) * 8)) ≡ false
no-hole from ms n none = by (nat_le (from * 8) n) refl
  where
    by : (begun : Bool) → nat_le (from * 8) n ≡ begun → (begun && nat_lt n ((from + ms) * 8)) ≡ false
    by false is = refl
    by true is = lt-leb (suc n) ((from + ms) * 8) (omega (arith, none, leb-true (from * 8) n is))

holes : (setting : Setting) (state : ℕ) (pair : Pair) (n : ℕ) → HolesAreSilent setting state pair n
holes setting state pair n =
    let shape : Shape = setting.shape in
    let first : ℕ = shape.hole_from_ms * 8 in
    let end : ℕ = (shape.hole_from_ms + shape.hole_ms) * 8 in
    let whole : keyed_sample setting.low setting.high (record shape { hole_ms = 0 }) state pair n
    ≡ both setting.low setting.high shape state pair n =
    outside setting.low setting.high (record shape { hole_ms = 0 }) state pair n (no-hole shape.hole_from_ms 0 n refl) in
    record {
      within = λ after before.
          in-hole setting.low setting.high shape state pair n (inside first end n after before);
      before = λ before.
          outside setting.low setting.high shape state pair n (sooner first end n before) ∙ sym whole;
      after = λ after.
          outside setting.low setting.high shape state pair n (later first end n after) ∙ sym whole;
    }

-- a tone that is late is silent before, and then sounds as from its beginning
late-none : (late place hz n : ℕ) → n < late * 8 → late_sample late place hz n ≡ pos 0
late-none late place hz n few =
    ap (λ (b : Bool). cond b (pos 0) (wave_from place hz (n - late * 8)))
    (le-leb (suc n) (late * 8) (omega (arith, few)))

late-some : (late place hz n m : ℕ) → place ≡ 0 → n ≡ late * 8 + m → late_sample late place hz n ≡ wave_sample hz m
late-some late place hz n m start is =
    let left : n - late * 8 ≡ m = omega (arith, is) in
    let from : 0 + hz * m ≡ hz * m = omega arith in
    ap (λ (b : Bool). cond b (pos 0) (wave_from place hz (n - late * 8)))
    (lt-leb (suc n) (late * 8) (omega (arith, is)))
    ∙ ap (wave_from place hz) left
    ∙ ap (λ (p : ℕ). wave_from p hz m) start
    ∙ ap (λ (k : ℕ). wave_at (k % 8000)) from

-- a tone that begins at no place that is drawn begins at 0
start-low : (shape : Shape) (state : ℕ) → shape.is_drawn ≡ false → (starts_of shape state).low ≡ 0
start-low shape state is = ap (λ (b : Bool). (starts_of (record shape { is_drawn = b }) state).low) is

start-high : (shape : Shape) (state : ℕ) → shape.is_drawn ≡ false → (starts_of shape state).high ≡ 0
start-high shape state is = ap (λ (b : Bool). (starts_of (record shape { is_drawn = b }) state).high) is

-- both tones, where it is known what each gives
added : (low high : ℕ) (x y a b : ℤ) → x ≡ a → y ≡ b → scaled low x +ℤ scaled high y ≡ scaled low a +ℤ scaled high b
added low high x y a b e f =
    ap (λ (z : ℤ). scaled low z +ℤ scaled high y) e ∙ ap (λ (z : ℤ). scaled low a +ℤ scaled high z) f

scaled-none : (amplitude : ℕ) → scaled amplitude (pos 0) ≡ pos 0
scaled-none amplitude = let e : (amplitude * 0 + 5000) / 10000 ≡ 0 = omega arith in ap (λ (k : ℕ). pos k) e

none-before : (x : ℤ) → pos 0 +ℤ x ≡ x
none-before x = omega (arith, ints)

none-after : (x : ℤ) → x +ℤ pos 0 ≡ x
none-after x = omega (arith, ints)

skewed : (setting : Setting) (state : ℕ) (pair : Pair) (n : ℕ) → IsUnbroken setting.shape
    → LateTonesWait setting state pair n
skewed setting state pair n unbroken =
    let shape : Shape = setting.shape in
    let low_hz : ℕ = tuned shape.pitch pair.low in
    let high_hz : ℕ = tuned shape.pitch pair.high in
    let low_at : ℕ = (starts_of shape state).low in
    let high_at : ℕ = (starts_of shape state).high in
    let plain : key_sample setting state pair n ≡ both setting.low setting.high shape state pair n =
    outside setting.low setting.high shape state pair n (no-hole shape.hole_from_ms shape.hole_ms n unbroken.hole) in
    let low : ℤ = late_sample shape.low_late_ms low_at low_hz n in
    let high : ℤ = late_sample shape.high_late_ms high_at high_hz n in
    let low_sounds : (m : ℕ) → n ≡ shape.low_late_ms * 8 + m → low ≡ wave_sample low_hz m =
    λ m is. late-some shape.low_late_ms low_at low_hz n m (start-low shape state unbroken.start) is in
    let high_sounds : (m : ℕ) → n ≡ shape.high_late_ms * 8 + m → high ≡ wave_sample high_hz m =
    λ m is. late-some shape.high_late_ms high_at high_hz n m (start-high shape state unbroken.start) is in
    record {
      low_waits = λ soon few. plain
          ∙ added setting.low setting.high low high (pos 0) (wave_sample high_hz n)
          (late-none shape.low_late_ms low_at low_hz n few) (high_sounds n (omega (arith, soon)))
          ∙ ap (λ (x : ℤ). x +ℤ scaled setting.high (wave_sample high_hz n)) (scaled-none setting.low)
          ∙ none-before (scaled setting.high (wave_sample high_hz n));
      low_comes = λ later soon is. plain
          ∙ added setting.low setting.high low high (wave_sample low_hz later) (wave_sample high_hz n)
          (low_sounds later is) (high_sounds n (omega (arith, soon)));
      high_waits = λ soon few. plain
          ∙ added setting.low setting.high low high (wave_sample low_hz n) (pos 0)
          (low_sounds n (omega (arith, soon))) (late-none shape.high_late_ms high_at high_hz n few)
          ∙ ap (λ (x : ℤ). scaled setting.low (wave_sample low_hz n) +ℤ x) (scaled-none setting.high)
          ∙ none-after (scaled setting.low (wave_sample low_hz n));
      high_comes = λ later soon is. plain
          ∙ added setting.low setting.high low high (wave_sample low_hz n) (wave_sample high_hz later)
          (low_sounds n (omega (arith, soon))) (high_sounds later is);
    }

pub shapes_are_sounded : ShapesAreSounded
shapes_are_sounded = record { detuned = tunes; holes = holes; skewed = skewed }
