-- A tone beside another: the level that is told of it.
use Rattle.std.proofs.Common.{◌≡◌, ◌∙◌, ℕ, ◌+◌, ◌-◌, ◌*◌, ◌/◌, ◌^◌, ◌<◌, ◌≤◌, true, sym, ap₂, subst, arith, inl, inr, ℤ, ◌+ℤ◌}
use Rattle.std.proofs.Math.Nat.{div-mul-le_self, mul-le-mul_left, mul-le-mul_right, pow-le-pow_left, pow-le-pow_right}
use Rattle.std.proofs.lemmas.Bool.{cases_lt, leb-true}
use Rattle.std.proofs.lemmas.Nat.{le-div, mul-le}
use Rattle.xb_ear.proofs.Standing.{and-both}
use Rattle.xb_laws.proofs.Inner.{inner, inner-agrees, inner-sum, length²}
use Rattle.xb_laws.proofs.Loud.{IsWave, given, given-most, loud, loud-small, loud-turns}
use Rattle.xb_laws.proofs.Tests.{held, held-is, least_of, least_side, most_of, most_test, own_test, side_test}
use Rattle.xb_laws.proofs.Tones.{cosine, from, own-least, tone}
use Rattle.xb_laws.proofs.Triangles.{third-side, third-side-least}

-- a quotient is no greater than that of a greater number
quotients : (x y k : ℕ) → 0 < k → x ≤ y → x / k ≤ y / k
quotients x y k some less =
    let most = div-mul-le_self x k in
    le-div (x / k) y k some (omega (arith, most, less))

-- what samples give that are those of two waves together
given-both : (f m : ℕ) (z x y : ℕ → ℤ) → ((n : ℕ) → z n ≡ x n +ℤ y n)
    → given f m z
    ≡ length² (inner (from m x) (cosine f) +ℤ inner (from m y) (cosine f))
    (inner (from m x) (tone f) +ℤ inner (from m y) (tone f))
given-both f m z x y is =
    let with : (w : ℕ → ℤ) → inner (from m z) w ≡ inner (from m x) w +ℤ inner (from m y) w =
    λ w. inner-agrees (from m z) (λ n. x (m + n) +ℤ y (m + n)) w (λ n. is (m + n))
    ∙ inner-sum (from m x) (from m y) w in
    ap₂ length² (with (cosine f)) (with (tone f))

-- the level that is told of a frequency
abbrev pub level_at : ℕ → ℕ → (ℕ → ℤ) → ℕ
level_at f m z = given f m z / 160000000000

module _ (f n x a cap m : ℕ) (z y : ℕ → ℤ) (wave : IsWave f n) (enough : 724 ≤ a) (few : x ≤ 426000)
    (own : own_test f n x a cap ≡ true) (is : (k : ℕ) → z k ≡ loud a f k +ℤ y k) (little : given f m y ≤ x * x) where
  tests : (most_test n x a cap (held (loud a f) (loud a f)) ≡ true) × (side_test a (held (loud a f) (tone f)) ≡ true)
  tests = and-both _ _ own

  most : given f m z ≤ most_of n x a (held (loud a f) (loud a f))
  most =
      let q : ℕ = held (loud a f) (loud a f) in
      let within : n * q ≤ 400000 * (a + 1) * (400000 * (a + 1)) = leb-true _ _ (and-both _ _ tests.0).0 in
      let own-most : given f m (loud a f) ≤ n * q =
      subst (λ (e : ℕ). given f m (loud a f) ≤ n * e) (held-is (loud a f) (loud a f))
      (given-most f n m (loud a f) wave (loud-turns a f)) in
      subst (λ (e : ℕ). e ≤ most_of n x a q) (sym (given-both f m z (loud a f) y is))
      (third-side (inner (from m (loud a f)) (cosine f)) (inner (from m (loud a f)) (tone f))
      (inner (from m y) (cosine f)) (inner (from m y) (tone f)) (n * q) (400000 * (a + 1)) x own-most within little)

  pub level-most : level_at f m z ≤ cap
  level-most =
      let below : most_of n x a (held (loud a f) (loud a f)) / 160000000000 ≤ cap =
      leb-true _ _ (and-both _ _ tests.0).1 in
      let less = quotients (given f m z) (most_of n x a (held (loud a f) (loud a f))) 160000000000 (omega arith) most in
      omega (arith, below, less)

  least : least_of a ≤ given f m z
  least =
      let l : ℕ = least_side a in
      let v : ℕ = l - 426000 in
      let sum : v + 426000 ≡ l = omega (arith, enough) in
      let far : 10001 * l + 80 * (a * 15000) ≤ 10000 * held (loud a f) (tone f) = leb-true _ _ tests.1 in
      let side : l * l ≤ given f m (loud a f) =
      own-least f a l (loud a f) (loud-turns a f) (loud-small a f)
      (subst (λ (e : ℕ). 10001 * l + 80 * (a * 15000) ≤ 10000 * e) (sym (held-is (loud a f) (tone f))) far) m in
      let wide = mul-le x x 426000 426000 few few in
      subst (λ (e : ℕ). v * v ≤ e) (sym (given-both f m z (loud a f) y is))
      (third-side-least (inner (from m (loud a f)) (cosine f)) (inner (from m (loud a f)) (tone f))
      (inner (from m y) (cosine f)) (inner (from m y) (tone f)) v 426000
      (subst (λ (e : ℕ). e * e ≤ given f m (loud a f)) (sym sum) side) (omega (arith, little, wide)))

  pub level-least : least_of a / 160000000000 ≤ level_at f m z
  level-least = quotients (least_of a) (given f m z) 160000000000 (omega arith) least

-- of two such numbers each is the other
pub one-nearest : (w y n t : ℕ) → w * 10 ^ (10 * n) ≤ y → y < w * 10 ^ (10 * (n + 1)) → w * 10 ^ (10 * t) ≤ y
    → y < w * 10 ^ (10 * (t + 1)) → n ≡ t
one-nearest w y n t n-least n-below t-least t-below = elim (cases_lt n t) [
  | inl less ↦ absurd (apart n t less n-below t-least)
  | inr no-less ↦ elim (cases_lt t n) [
    | inl less ↦ absurd (apart t n less t-below n-least)
    | inr no-more ↦ omega (arith, no-less, no-more)
  ]
]
  where
    apart : (n t : ℕ) → n < t → y < w * 10 ^ (10 * (n + 1)) → w * 10 ^ (10 * t) ≤ y → ⊥
    apart n t less below least =
        let grows : 10 ^ (10 * (n + 1)) ≤ 10 ^ (10 * t) = pow-le-pow_right (omega arith) (omega (arith, less)) in
        let more = mul-le-mul_left w grows in
        omega (arith, below, least, more)

-- a level between two others that are so many tenths is as many
pub between : (w k low level high t : ℕ) → low ≤ level → level ≤ high → w * 10 ^ (10 * t) ≤ low ^ 1000 * k
    → high ^ 1000 * k < w * 10 ^ (10 * (t + 1))
    → (w * 10 ^ (10 * t) ≤ level ^ 1000 * k) × (level ^ 1000 * k < w * 10 ^ (10 * (t + 1)))
between w k low level high t above below least most =
    let one = mul-le-mul_right k (pow-le-pow_left above 1000) in
    let two = mul-le-mul_right k (pow-le-pow_left below 1000) in
    (omega (arith, one, least), omega (arith, two, most))
