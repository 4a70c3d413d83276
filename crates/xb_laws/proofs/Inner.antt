-- Sums of products of two waves over 80 samples.
use Rattle.std.proofs.Common.{◌≡◌, ◌∙◌, ℕ, zero, suc, ◌+◌, ◌-◌, ◌*◌, ◌<◌, ◌≤◌, sym, ap, arith, refl, inl, inr, ℤ, pos, negsuc, ◌+ℤ◌, ◌*ℤ◌, neg_ℤ, unsigned_abs}
use lib.IntN.{*ℤ_comm, pos-*ℤ-negsuc, pos-*ℤ-pos}
use Rattle.std.proofs.lemmas.Bool.{cases_lt}
use Rattle.std.proofs.lemmas.Int.{ints}
use Rattle.std.proofs.lemmas.Nat.{mul-le}
use Rattle.xb_ear.proofs.Voltages.{distributes, square-is}
use Rattle.xb_ear.proofs.Products.{neg-times, nothing-times, regroup}
use Rattle.xb_laws.proofs.Sums.{sum, sum-agrees, sum-both, sum-times}

abbrev pub inner : (ℕ → ℤ) → (ℕ → ℤ) → ℤ
inner f g = sum (λ n. f n *ℤ g n) 0 80

-- two numbers as the sides of a right angle: the square of its third side
abbrev pub length² : ℤ → ℤ → ℕ
length² p r = unsigned_abs p * unsigned_abs p + unsigned_abs r * unsigned_abs r

pub inner-agrees : (f e g : ℕ → ℤ) → ((n : ℕ) → f n ≡ e n) → inner f g ≡ inner e g
inner-agrees f e g same = sum-agrees (λ n. f n *ℤ g n) (λ n. e n *ℤ g n) (λ n. ap (λ (z : ℤ). z *ℤ g n) (same n)) 0 80

pub inner-turns : (f g : ℕ → ℤ) → inner f g ≡ inner g f
inner-turns f g = sum-agrees (λ n. f n *ℤ g n) (λ n. g n *ℤ f n) (λ n. *ℤ_comm (f n) (g n)) 0 80

pub inner-sum : (e f g : ℕ → ℤ) → inner (λ n. e n +ℤ f n) g ≡ inner e g +ℤ inner f g
inner-sum e f g =
    sum-agrees (λ n. (e n +ℤ f n) *ℤ g n) (λ n. e n *ℤ g n +ℤ f n *ℤ g n) (λ n. distributes (e n) (f n) (g n)) 0 80
    ∙ sum-both (λ n. e n *ℤ g n) (λ n. f n *ℤ g n) 0 80

pub inner-times : (a : ℤ) (f g : ℕ → ℤ) → inner (λ n. a *ℤ f n) g ≡ a *ℤ inner f g
inner-times a f g =
    sum-agrees (λ n. (a *ℤ f n) *ℤ g n) (λ n. a *ℤ (f n *ℤ g n)) (λ n. regroup a (f n) (g n)) 0 80
    ∙ sum-times a (λ n. f n *ℤ g n) 0 80

-- with three waves together, each as loud as a number
abbrev pub three : (n a b : ℤ) → (e c s : ℕ → ℤ) → ℕ → ℤ
three n a b e c s i = (n *ℤ e i +ℤ a *ℤ c i) +ℤ b *ℤ s i

pub inner-three : (n a b : ℤ) (e c s y : ℕ → ℤ)
    → inner (three n a b e c s) y ≡ (n *ℤ inner e y +ℤ a *ℤ inner c y) +ℤ b *ℤ inner s y
inner-three n a b e c s y =
    inner-sum (λ i. n *ℤ e i +ℤ a *ℤ c i) (λ i. b *ℤ s i) y
    ∙ ap (λ (z : ℤ). z +ℤ inner (λ i. b *ℤ s i) y) (inner-sum (λ i. n *ℤ e i) (λ i. a *ℤ c i) y
    ∙ ap (λ (z : ℤ). z +ℤ inner (λ i. a *ℤ c i) y) (inner-times n e y)
    ∙ ap (λ (z : ℤ). n *ℤ inner e y +ℤ z) (inner-times a c y))
    ∙ ap (λ (z : ℤ). (n *ℤ inner e y +ℤ a *ℤ inner c y) +ℤ z) (inner-times b s y)

-- the sum of squares is not below 0
not-below : (f : ℕ → ℤ) (i k : ℕ) → (m : ℕ) × (sum (λ n. f n *ℤ f n) i k ≡ pos m)
unfolding sum
not-below f i zero = (0, refl)
not-below f i (suc k) =
    let later = not-below f (i + 1) k in
    let here = square-is (f i) in
    let rest = later.1 in
    (unsigned_abs (f i) * unsigned_abs (f i) + later.0, omega (arith, ints, here, rest))

minus-square : (a : ℤ) → neg_ℤ a *ℤ a ≡ neg_ℤ (pos (unsigned_abs a * unsigned_abs a))
minus-square a = neg-times a a ∙ ap (λ (z : ℤ). neg_ℤ z) (sym (square-is a))

none-left : (n a b : ℤ) (p q r : ℤ) → p ≡ n *ℤ a → q ≡ neg_ℤ (n *ℤ a) → r ≡ pos 0 → (p +ℤ q) +ℤ r ≡ pos 0
none-left n a b p q r hp hq hr = omega (arith, ints, hp, hq, hr)

few-of : (n q x y m : ℕ) (w : ℤ) → 0 < n → w ≡ (pos (n * q) +ℤ neg_ℤ (pos x)) +ℤ neg_ℤ (pos y) → pos n *ℤ w ≡ pos m
    → x + y ≤ n * q
few-of n q x y m w some is square = elim (cases_lt (n * q) (x + y)) [
  | inr fine ↦ fine
  | inl more ↦
      let l : ℕ = x + y - n * q - 1 in
      let below : w ≡ negsuc l = omega (arith, ints, is, more) in
      let minus : pos n *ℤ negsuc l ≡ neg_ℤ (pos (n * suc l)) = pos-*ℤ-negsuc n l in
      let same : pos n *ℤ w ≡ pos n *ℤ negsuc l = ap (λ (z : ℤ). pos n *ℤ z) below in
      let big = mul-le 1 1 n (suc l) (omega (arith, some)) (omega arith) in
      absurd (omega (arith, ints, minus, same, square, big))
]

module _ (e c s : ℕ → ℤ) (n q : ℕ) (some : 0 < n) (cosines : inner c c ≡ pos n) (sines : inner s s ≡ pos n)
    (apart : inner c s ≡ pos 0) (all : inner e e ≡ pos q) where
  abbrev a : ℤ
  a = inner e c

  abbrev b : ℤ
  b = inner e s

  abbrev left : ℕ → ℤ
  left = three (pos n) (neg_ℤ a) (neg_ℤ b) e c s

  -- nothing is left of either wave
  no-cosine : inner left c ≡ pos 0
  no-cosine =
      let one : neg_ℤ a *ℤ inner c c ≡ neg_ℤ (pos n *ℤ a) =
      ap (λ (z : ℤ). neg_ℤ a *ℤ z) cosines ∙ neg-times a (pos n) ∙ ap (λ (z : ℤ). neg_ℤ z) (*ℤ_comm a (pos n)) in
      let other : neg_ℤ b *ℤ inner s c ≡ pos 0 =
      ap (λ (z : ℤ). neg_ℤ b *ℤ z) (inner-turns s c ∙ apart) ∙ sym (nothing-times (neg_ℤ b)) in
      inner-three (pos n) (neg_ℤ a) (neg_ℤ b) e c s c
      ∙ none-left (pos n) a b (pos n *ℤ a) (neg_ℤ a *ℤ inner c c) (neg_ℤ b *ℤ inner s c) refl one other

  no-sine : inner left s ≡ pos 0
  no-sine =
      let one : neg_ℤ b *ℤ inner s s ≡ neg_ℤ (pos n *ℤ b) =
      ap (λ (z : ℤ). neg_ℤ b *ℤ z) sines ∙ neg-times b (pos n) ∙ ap (λ (z : ℤ). neg_ℤ z) (*ℤ_comm b (pos n)) in
      let other : neg_ℤ a *ℤ inner c s ≡ pos 0 =
      ap (λ (z : ℤ). neg_ℤ a *ℤ z) apart ∙ sym (nothing-times (neg_ℤ a)) in
      let sum = inner-three (pos n) (neg_ℤ a) (neg_ℤ b) e c s s in
      omega (arith, ints, one, other, sum)

  own : inner left e
      ≡ (pos (n * q) +ℤ neg_ℤ (pos (unsigned_abs a * unsigned_abs a))) +ℤ neg_ℤ (pos (unsigned_abs b * unsigned_abs b))
  own =
      let sum = inner-three (pos n) (neg_ℤ a) (neg_ℤ b) e c s e in
      let first : pos n *ℤ inner e e ≡ pos (n * q) = ap (λ (z : ℤ). pos n *ℤ z) all ∙ pos-*ℤ-pos n q in
      let second : neg_ℤ a *ℤ inner c e ≡ neg_ℤ (pos (unsigned_abs a * unsigned_abs a)) =
      ap (λ (z : ℤ). neg_ℤ a *ℤ z) (inner-turns c e) ∙ minus-square a in
      let third : neg_ℤ b *ℤ inner s e ≡ neg_ℤ (pos (unsigned_abs b * unsigned_abs b)) =
      ap (λ (z : ℤ). neg_ℤ b *ℤ z) (inner-turns s e) ∙ minus-square b in
      omega (arith, ints, sum, first, second, third)

  -- two waves of one energy that are apart give no more of samples than these hold
  pub bessel : length² (inner e c) (inner e s) ≤ n * q
  bessel =
      let square = not-below left 0 80 in
      let sum = inner-three (pos n) (neg_ℤ a) (neg_ℤ b) e c s left in
      let one : neg_ℤ a *ℤ inner c left ≡ pos 0 =
      ap (λ (z : ℤ). neg_ℤ a *ℤ z) (inner-turns c left ∙ no-cosine) ∙ sym (nothing-times (neg_ℤ a)) in
      let other : neg_ℤ b *ℤ inner s left ≡ pos 0 =
      ap (λ (z : ℤ). neg_ℤ b *ℤ z) (inner-turns s left ∙ no-sine) ∙ sym (nothing-times (neg_ℤ b)) in
      let rest : pos n *ℤ inner e left ≡ pos n *ℤ inner left e = ap (λ (z : ℤ). pos n *ℤ z) (inner-turns e left) in
      let known = square.1 in
      few-of n q (unsigned_abs a * unsigned_abs a) (unsigned_abs b * unsigned_abs b) square.0 (inner left e) some own
      (omega (arith, ints, sum, one, other, rest, known))

size-of : (z : ℤ) (m : ℕ) → z ≡ pos m → z ≡ pos (unsigned_abs z)
size-of z m is = omega (arith, ints, is)

pub inner-square : (f : ℕ → ℤ) → inner f f ≡ pos (unsigned_abs (inner f f))
inner-square f =
    let square = not-below f 0 80 in
    size-of (inner f f) square.0 square.1
