-- What is computed of each frequency and of each level.
use Rattle.std.proofs.Common.{◌≡◌, ◌∙◌, ℕ, ◌+◌, ◌-◌, ◌*◌, ◌/◌, ◌^◌, ◌<◌, ◌≤◌, Bool, true, ◌&&◌, List, drop, map, sym, ap, ap₂, subst, arith, ℤ, unsigned_abs}
use Rattle.std.specs.Prelude.{nat_le, nat_lt}
use Rattle.std.specs.List.{list_all, range_with_len}
use Rattle.std.proofs.lemmas.Bool.{leb-true}
use Rattle.xb_laws.proofs.Dots.{dot, dropped, inner-dot, inner-plain}
use Rattle.xb_laws.proofs.Inner.{inner, length²}
use Rattle.xb_laws.proofs.Loud.{given, loud, rest}
use Rattle.xb_laws.proofs.Tones.{cosine, tone}

-- 80 samples of a wave
abbrev pub period : (ℕ → ℤ) → List ℤ
period w = map w (range_with_len 0 80)

-- what 80 samples give of two waves, squared
abbrev pub square : List ℤ → List ℤ → List ℤ → ℕ
square xs cs ss = length² (dot xs cs) (dot xs ss)

abbrev pub is_little : List ℤ → List ℤ → List ℤ → ℕ → ℕ → Bool
is_little us cs ss most m = nat_le (square (drop m us) cs ss) most

-- from each sample of half a period on it is no more
abbrev pub are_little : List ℤ → List ℤ → List ℤ → ℕ → Bool
are_little us cs ss most = list_all (is_little us cs ss most) (range_with_len 0 40)

abbrev pub gives_little : (ℕ → ℤ) → ℕ → ℕ → Bool
gives_little u f most = are_little (map u (range_with_len 0 120)) (period (cosine f)) (period (tone f)) most

square-is : (u : ℕ → ℤ) (f m : ℕ) → m < 40
    → square (drop m (map u (range_with_len 0 120))) (period (cosine f)) (period (tone f)) ≡ given f m u
square-is u f m below =
    let n : ℕ = 120 - m in
    let all : 120 ≡ m + n = omega (arith, below) in
    let start : 0 + m ≡ m = omega arith in
    let row : drop m (map u (range_with_len 0 120)) ≡ map u (range_with_len m n) =
    dropped u m 0 n 120 all ∙ ap (λ (k : ℕ). map u (range_with_len k n)) start in
    let enough : 80 ≤ n = omega (arith, below) in
    ap (λ (xs : List ℤ). square xs (period (cosine f)) (period (tone f))) row
    ∙ sym (ap₂ length² (inner-dot u (cosine f) m n enough) (inner-dot u (tone f) m n enough))

pub little : (u : ℕ → ℤ) (f most m : ℕ)
    → is_little (map u (range_with_len 0 120)) (period (cosine f)) (period (tone f)) most m ≡ true
    → m < 40 → given f m u ≤ most
little u f most m is below =
    subst (λ (n : ℕ). n ≤ most) (square-is u f m below) (leb-true _ _ is)

-- what a tone holds, and what it gives of its own table
abbrev pub held : (ℕ → ℤ) → (ℕ → ℤ) → ℕ
held u w = unsigned_abs (dot (period u) (period w))

pub held-is : (u w : ℕ → ℤ) → unsigned_abs (inner u w) ≡ held u w
held-is u w = ap (λ (z : ℤ). unsigned_abs z) (inner-plain u w)

-- the greatest square of a tone's sums beside others, and the least side
abbrev pub most_of : ℕ → ℕ → ℕ → ℕ → ℕ
most_of n x a q = n * q + 2 * (400000 * (a + 1) * x) + x * x

abbrev pub least_side : ℕ → ℕ
least_side a = 399000 * a - 270000

abbrev pub most_test : ℕ → ℕ → ℕ → ℕ → ℕ → Bool
most_test n x a cap q =
    nat_le (n * q) (400000 * (a + 1) * (400000 * (a + 1))) && nat_le (most_of n x a q / 160000000000) cap

abbrev pub side_test : ℕ → ℕ → Bool
side_test a d = nat_le (10001 * least_side a + 80 * (a * 15000)) (10000 * d)

-- a tone of its own at an amplitude
abbrev pub own_test : ℕ → ℕ → ℕ → ℕ → ℕ → Bool
own_test f n x a cap =
    most_test n x a cap (held (loud a f) (loud a f)) && side_test a (held (loud a f) (tone f))

-- what rounding adds
abbrev pub rest_test : ℕ → ℕ → Bool
rest_test f a = nat_le (4000081820 * held (rest a f) (rest a f)) (2140000000 * 2140000000)

-- levels that are so many tenths at most, and at least
abbrev pub is_below : ℕ → ℕ → Bool
is_below level t = nat_lt (level ^ 1000 * 10 ^ 9039) (32767 ^ 2000 * 10 ^ (10 * (t + 1)))

abbrev pub is_reached : ℕ → ℕ → Bool
is_reached level t = nat_le (32767 ^ 2000 * 10 ^ (10 * t)) (level ^ 1000 * 10 ^ 9039)

-- the least square of a tone's sums
abbrev pub least_of : ℕ → ℕ
least_of a = (least_side a - 426000) * (least_side a - 426000)

abbrev pub bounds_test : ℕ → ℕ → ℕ → Bool
bounds_test a cap t =
    is_below cap t && is_reached (least_of a / 160000000000) t && nat_le 724 a && nat_lt cap (10 ^ 13)
