-- Samples times a number, and sums of two waves.
use Rattle.std.proofs.Common.{◌≡◌, ◌∙◌, ℕ, zero, suc, ◌+◌, ◌*◌, List, [], ◌∷◌, map, sym, ap, arith, refl, ℤ, pos, negsuc, ◌+ℤ◌, ◌*ℤ◌, neg_ℤ, unsigned_abs}
use lib.IntN.{*ℤ-negsuc, *ℤ_comm, zero-*ℤ}
use Rattle.std.specs.List.{range_with_len}
use Rattle.std.proofs.lemmas.Int.{ints, unsigned_abs-mul}
use Rattle.xb_ear.specs.Beside.{mixed}
use Rattle.xb_ear.specs.Levels.{correlated, squares}
use Rattle.xb_ear.proofs.Scaled.{assoc}
use Rattle.xb_ear.proofs.Voltages.{distributes, distributes-right}

-- products of three
pub neg-times : (x c : ℤ) → neg_ℤ x *ℤ c ≡ neg_ℤ (x *ℤ c)
neg-times x c =
    let none : neg_ℤ x +ℤ x ≡ pos 0 = omega (arith, ints) in
    let sum : pos 0 *ℤ c ≡ neg_ℤ x *ℤ c +ℤ x *ℤ c = ap (λ (z : ℤ). z *ℤ c) (sym none) ∙ distributes (neg_ℤ x) x c in
    let nothing = zero-*ℤ c in
    omega (arith, ints, sum, nothing)

pub regroup : (a x y : ℤ) → (a *ℤ x) *ℤ y ≡ a *ℤ (x *ℤ y)
regroup (pos k) x y = assoc k x y
regroup (negsuc k) x y =
    let p : ℤ = pos (suc k) in
    let minus : (z : ℤ) → negsuc k *ℤ z ≡ neg_ℤ (p *ℤ z) =
    λ z. *ℤ_comm (negsuc k) z ∙ *ℤ-negsuc z k ∙ ap (λ (u : ℤ). neg_ℤ u) (*ℤ_comm z p) in
    ap (λ (z : ℤ). z *ℤ y) (minus x) ∙ neg-times (p *ℤ x) y ∙ ap (λ (u : ℤ). neg_ℤ u) (assoc (suc k) x y)
    ∙ sym (minus (x *ℤ y))

swap : (a x y : ℤ) → x *ℤ (a *ℤ y) ≡ a *ℤ (x *ℤ y)
swap a x y = *ℤ_comm x (a *ℤ y) ∙ regroup a y x ∙ ap (λ (z : ℤ). a *ℤ z) (*ℤ_comm y x)

abbrev pub times : ℤ → List ℤ → List ℤ
times a xs = map (λ x. a *ℤ x) xs

-- the sums over samples that are a times others, or over a wave that is
pub times-more : (a p q c d : ℤ) → p ≡ a *ℤ q → c ≡ a *ℤ d → p +ℤ c ≡ a *ℤ (q +ℤ d)
times-more a p q c d hp hc =
    ap (λ (z : ℤ). z +ℤ c) hp ∙ ap (λ (z : ℤ). a *ℤ q +ℤ z) hc ∙ sym (distributes-right a q d)

pub nothing-times : (a : ℤ) → pos 0 ≡ a *ℤ pos 0
nothing-times a = sym (*ℤ_comm a (pos 0) ∙ zero-*ℤ a)

pub correlated-times : (wave : ℕ → ℤ) (a : ℤ) (i : ℕ) (xs : List ℤ)
    → correlated wave i (times a xs) ≡ a *ℤ correlated wave i xs
unfolding correlated
correlated-times wave a i [] = nothing-times a
correlated-times wave a i (x ∷ xs) =
    times-more a ((a *ℤ x) *ℤ wave i) (x *ℤ wave i) (correlated wave (i + 1) (times a xs)) (correlated wave (i + 1) xs)
    (regroup a x (wave i)) (correlated-times wave a (i + 1) xs)

pub correlated-louder : (wave : ℕ → ℤ) (a : ℤ) (i : ℕ) (xs : List ℤ)
    → correlated (λ k. a *ℤ wave k) i xs ≡ a *ℤ correlated wave i xs
unfolding correlated
correlated-louder wave a i [] = nothing-times a
correlated-louder wave a i (x ∷ xs) =
    times-more a (x *ℤ (a *ℤ wave i)) (x *ℤ wave i) (correlated (λ k. a *ℤ wave k) (i + 1) xs) (correlated wave (i + 1) xs)
    (swap a x (wave i)) (correlated-louder wave a (i + 1) xs)

pub squares-times : (a : ℤ) (xs : List ℤ) → squares (times a xs) ≡ unsigned_abs a * unsigned_abs a * squares xs
unfolding squares
squares-times a [] = omega arith
squares-times a (x ∷ xs) =
    let p : ℕ = unsigned_abs a in
    let q : ℕ = unsigned_abs x in
    let size : unsigned_abs (a *ℤ x) ≡ p * q = unsigned_abs-mul a x in
    let here : unsigned_abs (a *ℤ x) * unsigned_abs (a *ℤ x) ≡ p * q * (p * q) = ap (λ (n : ℕ). n * n) size in
    let same : p * q * (p * q) ≡ p * p * (q * q) = omega arith in
    let later = squares-times a xs in
    let all : p * p * (q * q + squares xs) ≡ p * p * (q * q) + p * p * squares xs = omega arith in
    omega (arith, here, same, later, all)

pub nothing-between : (x y : ℤ) → x +ℤ (pos 0 +ℤ pos 0) +ℤ y ≡ x +ℤ y
nothing-between x y = omega (arith, ints)

-- a sum of two waves
pub sum-is : (f g : ℕ → ℤ) (i m : ℕ)
    → map (λ n. f n +ℤ g n) (range_with_len i m) ≡ mixed (map f (range_with_len i m)) (map g (range_with_len i m))
sum-is f g i zero = refl
sum-is f g i (suc m) = ap (λ (xs : List ℤ). (f i +ℤ g i) ∷ xs) (sum-is f g (i + 1) m)

pub times-is : (f : ℕ → ℤ) (a : ℤ) (i m : ℕ) → map (λ n. a *ℤ f n) (range_with_len i m) ≡ times a (map f (range_with_len i m))
times-is f a i zero = refl
times-is f a i (suc m) = ap (λ (xs : List ℤ). (a *ℤ f i) ∷ xs) (times-is f a (i + 1) m)
