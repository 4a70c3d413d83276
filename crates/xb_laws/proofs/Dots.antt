-- Sums of products of two lists, which are soon computed.
use Rattle.std.proofs.Common.{◌≡◌, ◌∙◌, ℕ, zero, suc, ◌+◌, ◌≤◌, List, [], ◌∷◌, drop, map, sym, ap, arith, refl, ℤ, pos, ◌+ℤ◌, ◌*ℤ◌}
use Rattle.std.specs.List.{range_with_len}
use Rattle.xb_laws.proofs.Inner.{inner, inner-agrees}
use Rattle.xb_laws.proofs.Sums.{sum}
use Rattle.xb_laws.proofs.Tones.{from}

abbrev pub dot : List ℤ → List ℤ → ℤ
dot [] ys = pos 0
dot (x ∷ xs) [] = pos 0
dot (x ∷ xs) (y ∷ ys) = x *ℤ y +ℤ dot xs ys

dot-none : (xs : List ℤ) → dot xs [] ≡ pos 0
dot-none [] = refl
dot-none (x ∷ xs) = refl

dot-is : (u w : ℕ → ℤ) (d b k l : ℕ) → k ≤ l
    → dot (map u (range_with_len (d + b) l)) (map w (range_with_len b k)) ≡ sum (λ n. u (d + n) *ℤ w n) b k
unfolding sum
dot-is u w d b zero l few = dot-none (map u (range_with_len (d + b) l))
dot-is u w d b (suc k) zero few = absurd (omega (arith, few))
dot-is u w d b (suc k) (suc l) few =
    let next : d + b + 1 ≡ d + (b + 1) = omega arith in
    ap (λ (n : ℕ). u (d + b) *ℤ w b +ℤ dot (map u (range_with_len n l)) (map w (range_with_len (b + 1) k))) next
    ∙ ap (λ (z : ℤ). u (d + b) *ℤ w b +ℤ z) (dot-is u w d (b + 1) k l (omega (arith, few)))

-- the sum with a wave from any sample on
pub inner-dot : (u w : ℕ → ℤ) (d l : ℕ) → 80 ≤ l
    → inner (from d u) w ≡ dot (map u (range_with_len d l)) (map w (range_with_len 0 80))
inner-dot u w d l enough =
    let start : d + 0 ≡ d = omega arith in
    sym (ap (λ (n : ℕ). dot (map u (range_with_len n l)) (map w (range_with_len 0 80))) (sym start)
    ∙ dot-is u w d 0 80 l enough)

-- numbers in a row, without the first
pub dropped : (u : ℕ → ℤ) (k a n l : ℕ) → l ≡ k + n
    → drop k (map u (range_with_len a l)) ≡ map u (range_with_len (a + k) n)
dropped u zero a n l is =
    let same : a ≡ a + 0 = omega arith in
    let all : l ≡ n = omega (arith, is) in
    ap (λ (m : ℕ). map u (range_with_len m l)) same ∙ ap (λ (m : ℕ). map u (range_with_len (a + 0) m)) all
dropped u (suc k) a n zero is = absurd (omega (arith, is))
dropped u (suc k) a n (suc l) is =
    let same : a + 1 + k ≡ a + suc k = omega arith in
    dropped u k (a + 1) n l (omega (arith, is)) ∙ ap (λ (m : ℕ). map u (range_with_len m n)) same

-- the sum of two waves from their beginnings
pub inner-plain : (u w : ℕ → ℤ) → inner u w ≡ dot (map u (range_with_len 0 80)) (map w (range_with_len 0 80))
inner-plain u w =
    inner-agrees u (from 0 u) w (λ n. let same : n ≡ 0 + n = omega arith in ap u same)
    ∙ inner-dot u w 0 80 (omega arith)
