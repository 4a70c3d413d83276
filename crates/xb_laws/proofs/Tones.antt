-- The tones of multiples of 100 Hz by the table of sines: each comes again after 80 samples.
use Rattle.std.proofs.Common.{◌≡◌, ◌∙◌, ℕ, ◌+◌, ◌*◌, ◌/◌, ◌%◌, ◌<◌, ◌≤◌, sym, ap, arith, refl, ℤ, pos, ◌+ℤ◌, ◌-ℤ◌, ◌*ℤ◌, unsigned_abs}
use lib.IntN.{*ℤ_comm}
use Rattle.std.proofs.lemmas.Int.{ints, unsigned_abs-mul}
use Rattle.std.proofs.lemmas.Nat.{div-add-mod', mod-mul-add, mod_below, mul-le}
use Rattle.xb_sound.specs.SineLaws.{cosine_at}
use Rattle.xb_sound.specs.Sines.{sine_at}
use Rattle.xb_sound.proofs.SineTables.{table_is_a_sine}
use Rattle.xb_ear.proofs.Voltages.{square-is}
use Rattle.xb_laws.proofs.Inner.{inner, inner-agrees, inner-sum, inner-times, inner-turns, length²}
use Rattle.xb_laws.proofs.Sums.{sum, sum-later, sum-small, sum-turn}
use Rattle.xb_laws.proofs.Triangles.{side-along}

-- sample n of a frequency, in hundreds of Hz, and of its cosine
abbrev pub tone : ℕ → ℕ → ℤ
tone h n = sine_at (h * n % 80)

abbrev pub cosine : ℕ → ℕ → ℤ
cosine h n = sine_at ((h * n + 20) % 80)

-- samples from one on
abbrev pub from : ℕ → (ℕ → ℤ) → ℕ → ℤ
from m x n = x (m + n)

-- the same place, whole periods later
pub place-turns : (p q : ℕ) → (p + q * 80) % 80 ≡ p % 80
place-turns p q =
    let r : ℕ = p % 80 in
    let d : ℕ = p / 80 in
    let below : r < 80 = mod_below p 80 (omega arith) in
    let whole : d * 80 + r ≡ p = div-add-mod' p 80 in
    let later : p + q * 80 ≡ (d + q) * 80 + r = omega (arith, whole) in
    ap (λ (n : ℕ). n % 80) later ∙ mod-mul-add (d + q) 80 r below

pub tone-turns : (h n : ℕ) → tone h (n + 80) ≡ tone h n
tone-turns h n =
    let later : h * (n + 80) ≡ h * n + h * 80 = omega arith in
    ap (λ (p : ℕ). sine_at (p % 80)) later ∙ ap (λ (p : ℕ). sine_at p) (place-turns (h * n) h)

pub cosine-turns : (h n : ℕ) → cosine h (n + 80) ≡ cosine h n
cosine-turns h n =
    let later : h * (n + 80) + 20 ≡ h * n + 20 + h * 80 = omega arith in
    ap (λ (p : ℕ). sine_at (p % 80)) later ∙ ap (λ (p : ℕ). sine_at p) (place-turns (h * n + 20) h)

-- places that are added in the period
places-add : (p q : ℕ) → (p % 80 + q % 80) % 80 ≡ (p + q) % 80
places-add p q =
    let r : ℕ = p % 80 in
    let s : ℕ = q % 80 in
    let d : ℕ = p / 80 in
    let e : ℕ = q / 80 in
    let one : d * 80 + r ≡ p = div-add-mod' p 80 in
    let two : e * 80 + s ≡ q = div-add-mod' q 80 in
    let later : p + q ≡ r + s + (d + e) * 80 = omega (arith, one, two) in
    sym (ap (λ (n : ℕ). n % 80) later ∙ place-turns (r + s) (d + e))

cosine-place : (h n : ℕ) → cosine_at (h * n % 80) ≡ cosine h n
cosine-place h n =
    let e : (h * n % 80 + 20 % 80) % 80 ≡ (h * n + 20) % 80 = places-add (h * n) 20 in
    ap (λ (p : ℕ). sine_at p) e

-- a later sample of a tone by an earlier one
pub tone-adds : (h m n : ℕ)
    → unsigned_abs (pos 10000 *ℤ tone h (m + n) -ℤ (tone h m *ℤ cosine h n +ℤ cosine h m *ℤ tone h n)) ≤ 15000
tone-adds h m n =
    let p : ℕ = h * m % 80 in
    let q : ℕ = h * n % 80 in
    let near = table_is_a_sine.adds p q (mod_below (h * m) 80 (omega arith)) (mod_below (h * n) 80 (omega arith)) in
    let sum : h * m + h * n ≡ h * (m + n) = omega arith in
    let here : sine_at ((p + q) % 80) ≡ tone h (m + n) =
    ap (λ (r : ℕ). sine_at r) (places-add (h * m) (h * n)) ∙ ap (λ (r : ℕ). sine_at (r % 80)) sum in
    let size : ℤ → ℤ → ℤ → ℕ =
    λ a b c. unsigned_abs (pos 10000 *ℤ a -ℤ (sine_at p *ℤ c +ℤ b *ℤ sine_at q)) in
    let first : size (sine_at ((p + q) % 80)) (cosine_at p) (cosine_at q)
    ≡ size (tone h (m + n)) (cosine_at p) (cosine_at q) = ap (λ (z : ℤ). size z (cosine_at p) (cosine_at q)) here in
    let second : size (tone h (m + n)) (cosine_at p) (cosine_at q) ≡ size (tone h (m + n)) (cosine h m) (cosine_at q) =
    ap (λ (z : ℤ). size (tone h (m + n)) z (cosine_at q)) (cosine-place h m) in
    let third : size (tone h (m + n)) (cosine h m) (cosine_at q) ≡ size (tone h (m + n)) (cosine h m) (cosine h n) =
    ap (λ (z : ℤ). size (tone h (m + n)) (cosine h m) z) (cosine-place h n) in
    omega (arith, near, first, second, third)

circle-near : (a b : ℕ) (x y : ℤ) → pos a ≡ x → pos b ≡ y → unsigned_abs (x +ℤ y -ℤ pos 100000000) ≤ 10000
    → a + b ≤ 10001 * 10001
circle-near a b x y hx hy near = omega (arith, ints, hx, hy, near)

-- a tone and its cosine lie on a circle
pub tone-circle : (h m : ℕ) → length² (cosine h m) (tone h m) ≤ 10001 * 10001
tone-circle h m =
    let p : ℕ = h * m % 80 in
    let near = table_is_a_sine.circle p (mod_below (h * m) 80 (omega arith)) in
    let size : ℤ → ℕ = λ z. unsigned_abs z * unsigned_abs z in
    let few : size (sine_at p) + size (cosine_at p) ≤ 10001 * 10001 =
    circle-near (size (sine_at p)) (size (cosine_at p)) (sine_at p *ℤ sine_at p) (cosine_at p *ℤ cosine_at p)
    (square-is (sine_at p)) (square-is (cosine_at p)) near in
    let same : size (cosine_at p) ≡ size (cosine h m) = ap size (cosine-place h m) in
    omega (arith, few, same)

-- of samples that come again after 80 a sum is the same wherever it begins
pub sum-from : (p : ℕ → ℤ) → ((n : ℕ) → p (n + 80) ≡ p n) → (m : ℕ) → sum (from m p) 0 80 ≡ sum p 0 80
sum-from p turns m =
    let start : m + 0 ≡ m = omega arith in
    sum-later m p 0 80 ∙ ap (λ (n : ℕ). sum p n 80) start ∙ sum-turn p 80 turns m

pub inner-from : (x y : ℕ → ℤ) → ((n : ℕ) → x (n + 80) ≡ x n) → ((n : ℕ) → y (n + 80) ≡ y n) → (m : ℕ)
    → inner (from m x) (from m y) ≡ inner x y
inner-from x y x-turns y-turns m =
    sum-from (λ n. x n *ℤ y n)
    (λ n. ap (λ (z : ℤ). z *ℤ y (n + 80)) (x-turns n) ∙ ap (λ (z : ℤ). x n *ℤ z) (y-turns n)) m

split : (t y e : ℤ) → e ≡ t -ℤ y → t ≡ y +ℤ e
split t y e is = omega (arith, ints, is)

far-along : (d y r : ℤ) (t most all : ℕ) → d ≡ y +ℤ r → unsigned_abs d ≡ 10000 * t → unsigned_abs r ≤ most
    → all + most ≤ 10000 * t → all ≤ unsigned_abs y
far-along d y r t most all sum size few known = omega (arith, ints, sum, size, few, known)

module _ (h a l : ℕ) (x : ℕ → ℤ) (turns : (n : ℕ) → x (n + 80) ≡ x n) (small : (n : ℕ) → unsigned_abs (x n) ≤ a)
    (far : 10001 * l + 80 * (a * 15000) ≤ 10000 * unsigned_abs (inner x (tone h))) (m : ℕ) where
  -- the wave that begins with sample m, by those that begin at 0
  abbrev turned : ℕ → ℤ
  turned n = tone h m *ℤ cosine h n +ℤ cosine h m *ℤ tone h n

  abbrev error : ℕ → ℤ
  error n = pos 10000 *ℤ tone h (m + n) -ℤ turned n

  error-small : unsigned_abs (inner error (from m x)) ≤ 80 * (a * 15000)
  error-small =
      sum-small (λ n. error n *ℤ x (m + n)) (a * 15000) (λ n. one n) 0 80
    where
      one : (n : ℕ) → unsigned_abs (error n *ℤ x (m + n)) ≤ a * 15000
      one n =
          let size = unsigned_abs-mul (error n) (x (m + n)) in
          let most = mul-le (unsigned_abs (error n)) (unsigned_abs (x (m + n))) 15000 a (tone-adds h m n)
          (small (m + n)) in
          let same : 15000 * a ≡ a * 15000 = omega arith in
          omega (arith, size, most, same)

  all : pos 10000 *ℤ inner x (tone h) ≡ inner turned (from m x) +ℤ inner error (from m x)
  all =
      ap (λ (z : ℤ). pos 10000 *ℤ z) (inner-turns x (tone h) ∙ sym (inner-from (tone h) x (tone-turns h) turns m))
      ∙ sym (inner-times (pos 10000) (from m (tone h)) (from m x))
      ∙ inner-agrees (λ n. pos 10000 *ℤ tone h (m + n)) (λ n. turned n +ℤ error n) (from m x)
      (λ n. split (pos 10000 *ℤ tone h (m + n)) (turned n) (error n) refl)
      ∙ inner-sum turned error (from m x)

  along : inner turned (from m x)
      ≡ inner (from m x) (cosine h) *ℤ tone h m +ℤ inner (from m x) (tone h) *ℤ cosine h m
  along =
      inner-sum (λ n. tone h m *ℤ cosine h n) (λ n. cosine h m *ℤ tone h n) (from m x)
      ∙ ap (λ (z : ℤ). z +ℤ inner (λ n. cosine h m *ℤ tone h n) (from m x))
      (inner-times (tone h m) (cosine h) (from m x)
      ∙ *ℤ_comm (tone h m) (inner (cosine h) (from m x))
      ∙ ap (λ (z : ℤ). z *ℤ tone h m) (inner-turns (cosine h) (from m x)))
      ∙ ap (λ (z : ℤ). inner (from m x) (cosine h) *ℤ tone h m +ℤ z) (inner-times (cosine h m) (tone h) (from m x)
      ∙ *ℤ_comm (cosine h m) (inner (tone h) (from m x))
      ∙ ap (λ (z : ℤ). z *ℤ cosine h m) (inner-turns (tone h) (from m x)))

  swapped : length² (tone h m) (cosine h m) ≤ 10001 * 10001
  swapped =
      let circle = tone-circle h m in
      omega (arith, circle)

  -- the sums of a tone of its own are no smaller, wherever they begin
  pub own-least : l * l ≤ length² (inner (from m x) (cosine h)) (inner (from m x) (tone h))
  own-least =
      side-along (inner (from m x) (cosine h)) (inner (from m x) (tone h)) (tone h m) (cosine h m) 10001 l (omega arith)
      swapped
      (far-along (pos 10000 *ℤ inner x (tone h))
      (inner (from m x) (cosine h) *ℤ tone h m +ℤ inner (from m x) (tone h) *ℤ cosine h m) (inner error (from m x))
      (unsigned_abs (inner x (tone h))) (80 * (a * 15000)) (10001 * l)
      (all ∙ ap (λ (z : ℤ). z +ℤ inner error (from m x)) along)
      (unsigned_abs-mul (pos 10000) (inner x (tone h))) error-small far)
