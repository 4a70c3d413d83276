-- A tone is turned round after half a period of 80 samples: so 40 beginnings stand for all.
use Rattle.std.proofs.Common.{◌≡◌, ◌∙◌, ℕ, zero, suc, ◌+◌, ◌-◌, ◌*◌, ◌/◌, ◌%◌, ◌<◌, ◌≤◌, sym, ap, ap₂, subst, leb, arith, refl, inl, inr, ℤ, pos, negsuc, neg_ℤ, ◌+ℤ◌, ◌*ℤ◌, unsigned_abs}
use Rattle.std.proofs.lemmas.Bool.{cases_lt, leb-true}
use Rattle.std.proofs.lemmas.Int.{ints, unsigned_abs-mul}
use Rattle.std.proofs.lemmas.Nat.{div-add-mod', mod_below}
use Rattle.xb_sound.specs.Sines.{sine_at, sine_table}
use Rattle.xb_sound.proofs.SineTables.{holds_below}
use Rattle.xb_signal.specs.Waves.{scaled}
use Rattle.xb_laws.proofs.Inner.{inner, inner-agrees, inner-times, length²}
use Rattle.xb_laws.proofs.Loud.{given, loud}
use Rattle.xb_laws.proofs.Tones.{cosine, from, place-turns, tone}

same : (x y : ℤ) → unsigned_abs (x +ℤ y) ≤ 0 → x ≡ neg_ℤ y
same x y near = omega (arith, ints)

table-half : (p : ℕ) → p < 80 → sine_at ((p + 40) % 80) ≡ neg_ℤ (sine_at p)
unfolding sine_table
table-half p below =
    same _ _ (leb-true _ _ (holds_below (λ p. leb (unsigned_abs (sine_at ((p + 40) % 80) +ℤ sine_at p)) 0) 80 0 refl p
    (omega arith) (omega arith)))

-- of an odd number of hundreds of Hz
tone-half : (h k n : ℕ) → h ≡ 2 * k + 1 → tone h (40 + n) ≡ neg_ℤ (tone h n)
tone-half h k n odd =
    let r : ℕ = h * n % 80 in
    let d : ℕ = h * n / 80 in
    let whole : d * 80 + r ≡ h * n = div-add-mod' (h * n) 80 in
    let parts : h * (40 + n) ≡ h * 40 + h * n = omega arith in
    let forties : h * 40 ≡ 40 + k * 80 = ap (λ (m : ℕ). m * 40) odd ∙ omega arith in
    let later : h * (40 + n) ≡ r + 40 + (d + k) * 80 = omega (arith, whole, parts, forties) in
    ap (λ (p : ℕ). sine_at (p % 80)) later
    ∙ ap (λ (p : ℕ). sine_at p) (place-turns (r + 40) (d + k))
    ∙ table-half r (mod_below (h * n) 80 (omega arith))

scaled-half : (a : ℕ) (x : ℤ) → scaled a (neg_ℤ x) ≡ neg_ℤ (scaled a x)
scaled-half a (pos zero) =
    let none : a * 0 + 5000 ≡ 5000 = omega arith in
    ap (λ (n : ℕ). pos (n / 10000)) none ∙ sym (ap (λ (n : ℕ). neg_ℤ (pos (n / 10000))) none)
scaled-half a (pos (suc n)) = refl
scaled-half a (negsuc n) =
    let back : (m : ℕ) → pos m ≡ neg_ℤ (neg_ℤ (pos m)) = λ m. omega (arith, ints) in
    back ((a * suc n + 5000) / 10000)

loud-half : (a h k n : ℕ) → h ≡ 2 * k + 1 → loud a h (40 + n) ≡ neg_ℤ (loud a h n)
loud-half a h k n odd = ap (scaled a) (tone-half h k n odd) ∙ scaled-half a (tone h n)

minus-is : (x : ℤ) → neg_ℤ x ≡ negsuc 0 *ℤ x
minus-is x = omega (arith, ints)

-- the sums are those of before, below zero
given-half : (f a h k m : ℕ) → h ≡ 2 * k + 1 → given f (40 + m) (loud a h) ≡ given f m (loud a h)
given-half f a h k m odd =
    let x : ℕ → ℤ = loud a h in
    let turned : (n : ℕ) → from (40 + m) x n ≡ negsuc 0 *ℤ from m x n =
    λ n.
    let later : 40 + m + n ≡ 40 + (m + n) = omega arith in
    ap x later ∙ loud-half a h k (m + n) odd ∙ minus-is (x (m + n)) in
    let size : (w : ℕ → ℤ) → unsigned_abs (inner (from (40 + m) x) w) ≡ unsigned_abs (inner (from m x) w) =
    λ w.
    let one : 1 * unsigned_abs (inner (from m x) w) ≡ unsigned_abs (inner (from m x) w) = omega arith in
    ap (λ (z : ℤ). unsigned_abs z) (inner-agrees (from (40 + m) x) (λ n. negsuc 0 *ℤ from m x n) w turned
    ∙ inner-times (negsuc 0) (from m x) w)
    ∙ unsigned_abs-mul (negsuc 0) (inner (from m x) w) ∙ one in
    ap₂ (λ (p q : ℕ). p * p + q * q) (size (cosine f)) (size (tone f))

-- a tone from a later period on
tone-from : (h m k : ℕ) → tone h (m + k) ≡ tone h (m % 80 + k)
tone-from h m k =
    let r : ℕ = m % 80 in
    let d : ℕ = m / 80 in
    let whole : d * 80 + r ≡ m = div-add-mod' m 80 in
    let same : m + k ≡ r + k + d * 80 = omega (arith, whole) in
    let later : h * (r + k + d * 80) ≡ h * (r + k) + h * d * 80 = omega arith in
    ap (λ (p : ℕ). sine_at (h * p % 80)) same
    ∙ ap (λ (p : ℕ). sine_at (p % 80)) later
    ∙ ap (λ (p : ℕ). sine_at p) (place-turns (h * (r + k)) (h * d))

given-from : (f a h m : ℕ) → given f m (loud a h) ≡ given f (m % 80) (loud a h)
given-from f a h m =
    let with : (w : ℕ → ℤ) → inner (from m (loud a h)) w ≡ inner (from (m % 80) (loud a h)) w =
    λ w. inner-agrees (from m (loud a h)) (from (m % 80) (loud a h)) w (λ k. ap (scaled a) (tone-from h m k)) in
    ap₂ length² (with (cosine f)) (with (tone f))

-- what holds of the first 40 beginnings holds of all
pub anywhere : (f a h k most : ℕ) → h ≡ 2 * k + 1 → ((m : ℕ) → m < 40 → given f m (loud a h) ≤ most) → (m : ℕ)
    → given f m (loud a h) ≤ most
anywhere f a h k most odd first m =
    let r : ℕ = m % 80 in
    let below : r < 80 = mod_below m 80 (omega arith) in
    let there : given f r (loud a h) ≤ most =
    elim (cases_lt r 40) [
      | inl small ↦ first r small
      | inr above ↦ late r (r - 40) (omega (arith, above)) (omega (arith, below, above))
    ] in
    subst (λ (n : ℕ). n ≤ most) (sym (given-from f a h m)) there
  where
    late : (r s : ℕ) → r ≡ 40 + s → s < 40 → given f r (loud a h) ≤ most
    late r s is small =
        subst (λ (n : ℕ). n ≤ most)
        (sym (ap (λ (n : ℕ). given f n (loud a h)) is ∙ given-half f a h k s odd)) (first s small)
