-- A tone at an amplitude: each of its samples is that of the table, scaled and rounded.
use Rattle.std.proofs.Common.{◌≡◌, ◌∙◌, ℕ, suc, ◌+◌, ◌*◌, ◌/◌, ◌%◌, ◌<◌, ◌≤◌, sym, ap, arith, refl, ℤ, pos, negsuc, ◌+ℤ◌, ◌-ℤ◌, ◌*ℤ◌, neg_ℤ, unsigned_abs}
use Rattle.std.proofs.lemmas.Int.{ints, unsigned_abs-mul}
use Rattle.std.proofs.lemmas.Nat.{div-add-mod', mul-le}
use Rattle.xb_sound.proofs.SineTables.{sine_at-small}
use Rattle.xb_signal.specs.Waves.{scaled}
use Rattle.xb_laws.proofs.Inner.{bessel, inner, inner-agrees, inner-square, inner-sum, inner-times, length²}
use Rattle.xb_laws.proofs.Tones.{cosine, from, inner-from, tone, tone-turns}
use Rattle.xb_laws.proofs.Triangles.{third-side}

abbrev pub loud : ℕ → ℕ → ℕ → ℤ
loud a h n = scaled a (tone h n)

pub loud-turns : (a h n : ℕ) → loud a h (n + 80) ≡ loud a h n
loud-turns a h n = ap (scaled a) (tone-turns h n)

scaled-size : (a : ℕ) (x : ℤ) → unsigned_abs (scaled a x) ≡ (a * unsigned_abs x + 5000) / 10000
scaled-size a (pos n) = refl
scaled-size a (negsuc n) =
    let minus : (k : ℕ) → unsigned_abs (neg_ℤ (pos k)) ≡ k = λ k. omega (arith, ints) in
    minus ((a * suc n + 5000) / 10000)

scaled-small : (a : ℕ) (x : ℤ) → unsigned_abs x ≤ 10000 → unsigned_abs (scaled a x) ≤ a
scaled-small a x small =
    let p : ℕ = a * unsigned_abs x + 5000 in
    let whole : p / 10000 * 10000 + p % 10000 ≡ p = div-add-mod' p 10000 in
    let most = mul-le a (unsigned_abs x) a 10000 (omega arith) small in
    let size = scaled-size a x in
    omega (arith, whole, most, size)

pub loud-small : (a h n : ℕ) → unsigned_abs (loud a h n) ≤ a
loud-small a h n = scaled-small a (tone h n) (sine_at-small (h * n % 80))

-- 10,000 times what rounding adds
abbrev pub rest : ℕ → ℕ → ℕ → ℤ
rest a h n = pos 10000 *ℤ loud a h n -ℤ pos a *ℤ tone h n

pub rest-turns : (a h n : ℕ) → rest a h (n + 80) ≡ rest a h n
rest-turns a h n = ap (λ (z : ℤ). pos 10000 *ℤ scaled a z -ℤ pos a *ℤ z) (tone-turns h n)

-- what is known of a frequency: it and its cosine hold the same, and are apart
pub record IsWave (f n : ℕ) : Type 0 where
  pub some : 0 < n
  pub most : n ≤ 4000081820
  pub cosines : inner (cosine f) (cosine f) ≡ pos n
  pub sines : inner (tone f) (tone f) ≡ pos n
  pub apart : inner (cosine f) (tone f) ≡ pos 0

-- the square of what samples, from one on, give of a frequency
abbrev pub given : ℕ → ℕ → (ℕ → ℤ) → ℕ
given f m x = length² (inner (from m x) (cosine f)) (inner (from m x) (tone f))

-- is no more than they hold
pub given-most : (f n m : ℕ) (x : ℕ → ℤ) → IsWave f n → ((k : ℕ) → x (k + 80) ≡ x k)
    → given f m x ≤ n * unsigned_abs (inner x x)
given-most f n m x wave turns =
    bessel (from m x) (cosine f) (tone f) n (unsigned_abs (inner x x)) wave.some wave.cosines wave.sines wave.apart
    (inner-from x x turns turns m ∙ inner-square x)

split : (t y e : ℤ) → e ≡ t -ℤ y → t ≡ y +ℤ e
split t y e is = omega (arith, ints, is)

module _ (b g m : ℕ) (w : ℕ → ℤ) where
  -- the sums of a tone at an amplitude by those of the table and of what rounding adds
  loud-parts : pos 10000 *ℤ inner (from m (loud b g)) w
      ≡ pos b *ℤ inner (from m (tone g)) w +ℤ inner (from m (rest b g)) w
  loud-parts =
      sym (inner-times (pos 10000) (from m (loud b g)) w)
      ∙ inner-agrees (λ n. pos 10000 *ℤ loud b g (m + n)) (λ n. pos b *ℤ tone g (m + n) +ℤ rest b g (m + n)) w
      (λ n. split (pos 10000 *ℤ loud b g (m + n)) (pos b *ℤ tone g (m + n)) (rest b g (m + n)) refl)
      ∙ inner-sum (λ n. pos b *ℤ tone g (m + n)) (from m (rest b g)) w
      ∙ ap (λ (z : ℤ). z +ℤ inner (from m (rest b g)) w) (inner-times (pos b) (from m (tone g)) w)

size-times : (k : ℕ) (p r : ℤ) → length² (pos k *ℤ p) (pos k *ℤ r) ≡ k * k * length² p r
size-times k p r =
    let one : unsigned_abs (pos k *ℤ p) ≡ k * unsigned_abs p = unsigned_abs-mul (pos k) p in
    let two : unsigned_abs (pos k *ℤ r) ≡ k * unsigned_abs r = unsigned_abs-mul (pos k) r in
    let same : k * unsigned_abs p * (k * unsigned_abs p) + k * unsigned_abs r * (k * unsigned_abs r)
    ≡ k * k * length² p r = omega arith in
    ap (λ (s : ℕ). s * s + unsigned_abs (pos k *ℤ r) * unsigned_abs (pos k *ℤ r)) one
    ∙ ap (λ (s : ℕ). k * unsigned_abs p * (k * unsigned_abs p) + s * s) two ∙ same

-- so little of another frequency is heard of a tone
pub leaks : (f n g b t h x m : ℕ) → IsWave f n → given f m (tone g) ≤ t * t
    → 4000081820 * unsigned_abs (inner (rest b g) (rest b g)) ≤ h * h → b * t + h ≤ 10000 * x
    → given f m (loud b g) ≤ x * x
leaks f n g b t h x m wave little few within =
    let p : ℤ = inner (from m (tone g)) (cosine f) in
    let r : ℤ = inner (from m (tone g)) (tone f) in
    let q : ℤ = inner (from m (rest b g)) (cosine f) in
    let s : ℤ = inner (from m (rest b g)) (tone f) in
    let v : ℕ = b * t in
    let e : ℕ = unsigned_abs (inner (rest b g) (rest b g)) in
    let one : length² (pos b *ℤ p) (pos b *ℤ r) ≤ v * v =
    let size = size-times b p r in
    let most = mul-le (b * b) (length² p r) (b * b) (t * t) (omega arith) little in
    let same : b * b * (t * t) ≡ v * v = omega arith in
    omega (arith, size, most, same) in
    let other : length² q s ≤ h * h =
    let rests = given-most f n m (rest b g) wave (rest-turns b g) in
    let most = mul-le n e 4000081820 e wave.most (omega arith) in
    omega (arith, rests, most, few) in
    let all = third-side (pos b *ℤ p) (pos b *ℤ r) q s (v * v) v h one (omega arith) other in
    let first : pos 10000 *ℤ inner (from m (loud b g)) (cosine f) ≡ pos b *ℤ p +ℤ q = loud-parts b g m (cosine f) in
    let second : pos 10000 *ℤ inner (from m (loud b g)) (tone f) ≡ pos b *ℤ r +ℤ s = loud-parts b g m (tone f) in
    let size = size-times 10000 (inner (from m (loud b g)) (cosine f)) (inner (from m (loud b g)) (tone f)) in
    let same : length² (pos 10000 *ℤ inner (from m (loud b g)) (cosine f))
    (pos 10000 *ℤ inner (from m (loud b g)) (tone f))
    ≡ length² (pos b *ℤ p +ℤ q) (pos b *ℤ r +ℤ s) =
    ap (λ (z : ℤ). length² z (pos 10000 *ℤ inner (from m (loud b g)) (tone f))) first
    ∙ ap (λ (z : ℤ). length² (pos b *ℤ p +ℤ q) z) second in
    let whole = mul-le (v + h) (v + h) (10000 * x) (10000 * x) within within in
    omega (arith, all, size, same, whole)
