-- The sides of triangles.
use Rattle.std.proofs.Common.{◌≡◌, ℕ, ◌+◌, ◌*◌, ◌<◌, ◌≤◌, ap, arith, inl, inr, ℤ, ◌+ℤ◌, ◌*ℤ◌, neg_ℤ, unsigned_abs}
use Rattle.std.proofs.lemmas.Bool.{cases_lt}
use Rattle.std.proofs.lemmas.Int.{ints, unsigned_abs-mul}
use Rattle.std.proofs.lemmas.Nat.{mul-le}
use Rattle.xb_ear.proofs.Mixed.{two-squares}
use Rattle.xb_laws.proofs.Inner.{length²}

cauchy : (a b c d : ℕ) → (a * c + b * d) * (a * c + b * d) ≤ (a * a + b * b) * (c * c + d * d)
cauchy a b c d =
    let e = two-squares (a * d) (b * c) in
    omega (arith, e)

pub root-le : (x y : ℕ) → x * x ≤ y * y → x ≤ y
root-le x y less = elim (cases_lt y x) [
  | inr fine ↦ fine
  | inl more ↦
      let big = mul-le (y + 1) (y + 1) x x (omega (arith, more)) (omega (arith, more)) in
      absurd (omega (arith, big, less))
]

-- of two sides that are no longer than these
both-sides : (a b c d v x : ℕ) → a * a + b * b ≤ v * v → c * c + d * d ≤ x * x → a * c + b * d ≤ v * x
both-sides a b c d v x one other =
    let most = mul-le (a * a + b * b) (c * c + d * d) (v * v) (x * x) one other in
    let turned = cauchy a b c d in
    let same : v * v * (x * x) ≡ v * x * (v * x) = omega arith in
    root-le (a * c + b * d) (v * x) (omega (arith, most, turned, same))

added : (a c e : ℕ) → e ≤ a + c → e * e ≤ a * a + 2 * (a * c) + c * c
added a c e less =
    let most = mul-le e e (a + c) (a + c) less less in
    omega (arith, most)

-- the third side of a triangle
pub third-side : (p r q s : ℤ) (m v x : ℕ) → length² p r ≤ m → m ≤ v * v → length² q s ≤ x * x
    → length² (p +ℤ q) (r +ℤ s) ≤ m + 2 * (v * x) + x * x
third-side p r q s m v x one within other =
    let a = unsigned_abs p in
    let b = unsigned_abs r in
    let c = unsigned_abs q in
    let d = unsigned_abs s in
    let across = both-sides a b c d v x (omega (arith, one, within)) other in
    let first = added a c (unsigned_abs (p +ℤ q)) (omega (arith, ints)) in
    let second = added b d (unsigned_abs (r +ℤ s)) (omega (arith, ints)) in
    omega (arith, one, other, across, first, second)

back : (p q : ℤ) → p ≡ (p +ℤ q) +ℤ neg_ℤ q
back p q = omega (arith, ints)

minus-size : (q : ℤ) → unsigned_abs (neg_ℤ q) ≡ unsigned_abs q
minus-size q = omega (arith, ints)

-- and it is no shorter than the one side without the other
pub third-side-least : (p r q s : ℤ) (v x : ℕ) → (v + x) * (v + x) ≤ length² p r → length² q s ≤ x * x
    → v * v ≤ length² (p +ℤ q) (r +ℤ s)
third-side-least p r q s v x long short = elim (cases_lt (length² (p +ℤ q) (r +ℤ s)) (v * v)) [
  | inr fine ↦ fine
  | inl less ↦
      let m : ℕ = length² (p +ℤ q) (r +ℤ s) in
      let size : ℤ → ℕ = λ z. unsigned_abs z * unsigned_abs z in
      let one : size (neg_ℤ q) ≡ size q = ap (λ (n : ℕ). n * n) (minus-size q) in
      let two : size (neg_ℤ s) ≡ size s = ap (λ (n : ℕ). n * n) (minus-size s) in
      let turned = third-side (p +ℤ q) (r +ℤ s) (neg_ℤ q) (neg_ℤ s) m v x (omega arith) (omega (arith, less))
      (omega (arith, short, one, two)) in
      let first : size p ≡ size ((p +ℤ q) +ℤ neg_ℤ q) = ap size (back p q) in
      let second : size r ≡ size ((r +ℤ s) +ℤ neg_ℤ s) = ap size (back r s) in
      absurd (omega (arith, long, less, turned, first, second))
]

-- a side is as long as it is along any direction, at least
pub side-along : (p r u w : ℤ) (k a : ℕ) → 0 < k → length² u w ≤ k * k → k * a ≤ unsigned_abs (p *ℤ u +ℤ r *ℤ w)
    → a * a ≤ length² p r
side-along p r u w k a some one far = elim (cases_lt (length² p r) (a * a)) [
  | inr fine ↦ fine
  | inl less ↦
      let first = unsigned_abs-mul p u in
      let second = unsigned_abs-mul r w in
      let most : k * a ≤ unsigned_abs p * unsigned_abs u + unsigned_abs r * unsigned_abs w =
      omega (arith, ints, far, first, second) in
      let all : ℕ = unsigned_abs p * unsigned_abs u + unsigned_abs r * unsigned_abs w in
      let square = mul-le (k * a) (k * a) all all most most in
      let turned = cauchy (unsigned_abs p) (unsigned_abs r) (unsigned_abs u) (unsigned_abs w) in
      let bound = mul-le (length² p r + 1) (length² u w) (a * a) (k * k) (omega (arith, less)) one in
      let strict = mul-le (length² p r + 1) (k * k) (a * a) (k * k) (omega (arith, less)) (omega arith) in
      let some-square = mul-le 1 1 k k (omega (arith, some)) (omega (arith, some)) in
      let within = mul-le (length² p r) (length² u w) (length² p r) (k * k) (omega arith) one in
      let same : k * a * (k * a) ≡ a * a * (k * k) = omega arith in
      absurd (omega (arith, square, turned, strict, some-square, within, same))
]
