-- Two sounds at once: sums, squares and windows.
use Rattle.std.proofs.Common.{◌≡◌, ◌∙◌, ℕ, zero, suc, ◌+◌, ◌-◌, ◌*◌, ◌≤◌, List, [], ◌∷◌, map, take, drop, length, sym, ap, subst, inl, inr, arith, refl, ℤ, pos, ◌+ℤ◌, ◌*ℤ◌, unsigned_abs}
use Rattle.std.specs.List.{range_with_len}
use Rattle.std.proofs.lemmas.Bool.{cases_lt}
use Rattle.std.proofs.lemmas.Int.{ints}
use Rattle.xb_ear.specs.Beside.{mixed}
use Rattle.xb_ear.specs.Levels.{correlated, squares}
use Rattle.xb_ear.proofs.Voltages.{distributes, distributes-right, square-is, square-of-sum}

pub mixed-length : (xs ds : List ℤ) → length ds ≡ length xs → length (mixed xs ds) ≡ length xs
mixed-length [] ds long = refl
mixed-length (x ∷ xs) [] long = long
mixed-length (x ∷ xs) (d ∷ ds) long = ap (λ (n : ℕ). suc n) (mixed-length xs ds (omega (arith, long)))

pub take-mixed : (k : ℕ) (xs ds : List ℤ) → take k (mixed xs ds) ≡ mixed (take k xs) (take k ds)
take-mixed zero xs ds = refl
take-mixed (suc k) [] ds = refl
take-mixed (suc k) (x ∷ xs) [] = refl
take-mixed (suc k) (x ∷ xs) (d ∷ ds) = ap (λ (ys : List ℤ). (x +ℤ d) ∷ ys) (take-mixed k xs ds)

mixed-none : (xs : List ℤ) → [] ≡ mixed xs []
mixed-none [] = refl
mixed-none (x ∷ xs) = refl

pub drop-mixed : (k : ℕ) (xs ds : List ℤ) → drop k (mixed xs ds) ≡ mixed (drop k xs) (drop k ds)
drop-mixed zero xs ds = refl
drop-mixed (suc k) [] ds = refl
drop-mixed (suc k) (x ∷ xs) [] = mixed-none (drop k xs)
drop-mixed (suc k) (x ∷ xs) (d ∷ ds) = drop-mixed k xs ds

-- the sum of the products of a wave with both is that with each
sum-more : (p q r a b c : ℤ) → p ≡ q +ℤ r → c ≡ a +ℤ b → p +ℤ c ≡ (q +ℤ a) +ℤ (r +ℤ b)
sum-more p q r a b c hp hc = omega (arith, ints)

pub correlated-mixed : (wave : ℕ → ℤ) (i : ℕ) (xs ds : List ℤ) → length ds ≡ length xs
    → correlated wave i (mixed xs ds) ≡ correlated wave i xs +ℤ correlated wave i ds
unfolding correlated
correlated-mixed wave i [] [] long = refl
correlated-mixed wave i [] (d ∷ ds) long = absurd (omega (arith, long))
correlated-mixed wave i (x ∷ xs) [] long = absurd (omega (arith, long))
correlated-mixed wave i (x ∷ xs) (d ∷ ds) long =
    sum-more ((x +ℤ d) *ℤ wave i) (x *ℤ wave i) (d *ℤ wave i) (correlated wave (i + 1) xs) (correlated wave (i + 1) ds)
    (correlated wave (i + 1) (mixed xs ds)) (distributes x d (wave i))
    (correlated-mixed wave (i + 1) xs ds (omega (arith, long)))

-- and that of the sum of two waves
pub correlated-sum : (f g : ℕ → ℤ) (i : ℕ) (ds : List ℤ)
    → correlated (λ k. f k +ℤ g k) i ds ≡ correlated f i ds +ℤ correlated g i ds
unfolding correlated
correlated-sum f g i [] = refl
correlated-sum f g i (d ∷ ds) =
    sum-more (d *ℤ (f i +ℤ g i)) (d *ℤ f i) (d *ℤ g i) (correlated f (i + 1) ds) (correlated g (i + 1) ds)
    (correlated (λ k. f k +ℤ g k) (i + 1) ds) (distributes-right d (f i) (g i)) (correlated-sum f g (i + 1) ds)

-- two waves that agree
pub correlated-agrees : (f g : ℕ → ℤ) → ((k : ℕ) → f k ≡ g k) → (i : ℕ) (ds : List ℤ)
    → correlated f i ds ≡ correlated g i ds
unfolding correlated
correlated-agrees f g same i [] = refl
correlated-agrees f g same i (d ∷ ds) =
    ap (λ (z : ℤ). d *ℤ z +ℤ correlated f (i + 1) ds) (same i)
    ∙ ap (λ (z : ℤ). d *ℤ g i +ℤ z) (correlated-agrees f g same (i + 1) ds)

-- the squares of samples of a wave that are mixed with others
squares-more : (y u x a d k : ℕ) (p q : ℤ) → pos y ≡ pos x +ℤ (p +ℤ p) +ℤ pos d → pos u ≡ pos a +ℤ (q +ℤ q) +ℤ pos k
    → pos (y + u) ≡ pos (x + a) +ℤ ((p +ℤ q) +ℤ (p +ℤ q)) +ℤ pos (d + k)
squares-more y u x a d k p q hy hu = omega (arith, ints)

pub squares-mixed : (f : ℕ → ℤ) (r i a m : ℕ) (ds : List ℤ) → a ≡ r + i → length ds ≡ m
    → pos (squares (mixed (map f (range_with_len a m)) ds))
    ≡ pos (squares (map f (range_with_len a m)))
    +ℤ (correlated (λ k. f (r + k)) i ds +ℤ correlated (λ k. f (r + k)) i ds) +ℤ pos (squares ds)
unfolding squares correlated
squares-mixed f r i a zero [] at long = refl
squares-mixed f r i a zero (d ∷ ds) at long = absurd (omega (arith, long))
squares-mixed f r i a (suc m) [] at long = absurd (omega (arith, long))
squares-mixed f r i a (suc m) (d ∷ ds) at long =
    let x : ℤ = f a in
    let y : ℤ = x +ℤ d in
    let is : f a ≡ f (r + i) = ap f at in
    let square : pos (unsigned_abs y * unsigned_abs y)
    ≡ pos (unsigned_abs x * unsigned_abs x) +ℤ (d *ℤ f (r + i) +ℤ d *ℤ f (r + i)) +ℤ pos (unsigned_abs d * unsigned_abs d) =
    square-is y ∙ square-of-sum x d
    ∙ ap (λ (z : ℤ). z +ℤ (d *ℤ x +ℤ d *ℤ x) +ℤ d *ℤ d) (sym (square-is x))
    ∙ ap (λ (z : ℤ). pos (unsigned_abs x * unsigned_abs x) +ℤ (d *ℤ z +ℤ d *ℤ z) +ℤ d *ℤ d) is
    ∙ ap (λ (z : ℤ). pos (unsigned_abs x * unsigned_abs x) +ℤ (d *ℤ f (r + i) +ℤ d *ℤ f (r + i)) +ℤ z) (sym (square-is d)) in
    let next : a + 1 ≡ r + (i + 1) = omega (arith, at) in
    squares-more (unsigned_abs y * unsigned_abs y) (squares (mixed (map f (range_with_len (a + 1) m)) ds))
    (unsigned_abs x * unsigned_abs x) (squares (map f (range_with_len (a + 1) m)))
    (unsigned_abs d * unsigned_abs d) (squares ds) (d *ℤ f (r + i)) (correlated (λ k. f (r + k)) (i + 1) ds) square
    (squares-mixed f r (i + 1) (a + 1) m ds next (omega (arith, long)))

-- twice a product is no more than two squares
pub two-squares : (x y : ℕ) → 2 * (x * y) ≤ x * x + y * y
two-squares x y = elim (cases_lt x y) [
  | inl less ↦ apart x y (y - x) (omega (arith, less))
  | inr more ↦
      let turned : 2 * (y * x) ≤ y * y + x * x = apart y x (x - y) (omega (arith, more)) in
      let same : x * y ≡ y * x = omega arith in
      omega (arith, turned, same)
]
  where
    plain : (x k : ℕ) → 2 * (x * (x + k)) ≤ x * x + (x + k) * (x + k)
    plain x k = omega arith

    apart : (x y k : ℕ) → y ≡ x + k → 2 * (x * y) ≤ x * x + y * y
    apart x y k is = subst (λ (z : ℕ). 2 * (x * z) ≤ x * x + z * z) (sym is) (plain x k)
