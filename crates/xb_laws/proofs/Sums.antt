-- Sums over numbers in a row.
use Rattle.std.proofs.Common.{◌≡◌, ◌∙◌, ℕ, zero, suc, ◌+◌, ◌*◌, ◌≤◌, sym, ap, arith, refl, ℤ, pos, ◌+ℤ◌, ◌*ℤ◌, unsigned_abs}
use Rattle.std.proofs.lemmas.Int.{ints}
use Rattle.xb_ear.proofs.Voltages.{distributes-right}
use Rattle.xb_ear.proofs.Products.{nothing-times}

-- so many numbers, from one on
unfoldable pub sum : (ℕ → ℤ) → ℕ → ℕ → ℤ
sum f i zero = pos 0
sum f i (suc k) = f i +ℤ sum f (i + 1) k

pub sum-agrees : (f g : ℕ → ℤ) → ((i : ℕ) → f i ≡ g i) → (i k : ℕ) → sum f i k ≡ sum g i k
unfolding sum
sum-agrees f g same i zero = refl
sum-agrees f g same i (suc k) =
    ap (λ (z : ℤ). z +ℤ sum f (i + 1) k) (same i) ∙ ap (λ (z : ℤ). g i +ℤ z) (sum-agrees f g same (i + 1) k)

sum-more : (p q a b c : ℤ) → c ≡ a +ℤ b → (p +ℤ q) +ℤ c ≡ (p +ℤ a) +ℤ (q +ℤ b)
sum-more p q a b c hc = omega (arith, ints)

pub sum-both : (f g : ℕ → ℤ) (i k : ℕ) → sum (λ n. f n +ℤ g n) i k ≡ sum f i k +ℤ sum g i k
unfolding sum
sum-both f g i zero = refl
sum-both f g i (suc k) =
    sum-more (f i) (g i) (sum f (i + 1) k) (sum g (i + 1) k) (sum (λ n. f n +ℤ g n) (i + 1) k) (sum-both f g (i + 1) k)

pub sum-times : (a : ℤ) (f : ℕ → ℤ) (i k : ℕ) → sum (λ n. a *ℤ f n) i k ≡ a *ℤ sum f i k
unfolding sum
sum-times a f i zero = nothing-times a
sum-times a f i (suc k) =
    ap (λ (z : ℤ). a *ℤ f i +ℤ z) (sum-times a f (i + 1) k) ∙ sym (distributes-right a (f i) (sum f (i + 1) k))

-- of numbers that begin later
pub sum-later : (a : ℕ) (f : ℕ → ℤ) (i k : ℕ) → sum (λ n. f (a + n)) i k ≡ sum f (a + i) k
unfolding sum
sum-later a f i zero = refl
sum-later a f i (suc k) =
    let next : a + (i + 1) ≡ a + i + 1 = omega arith in
    ap (λ (z : ℤ). f (a + i) +ℤ z) (sum-later a f (i + 1) k ∙ ap (λ (n : ℕ). sum f n k) next)

regrouped : (x y z u : ℤ) → y ≡ z +ℤ u → x +ℤ y ≡ (x +ℤ z) +ℤ u
regrouped x y z u is = omega (arith, ints)

sum-last : (f : ℕ → ℤ) (i k : ℕ) → sum f i (suc k) ≡ sum f i k +ℤ f (i + k)
unfolding sum
sum-last f i zero =
    let here : i + 0 ≡ i = omega arith in
    let same : f i +ℤ pos 0 ≡ pos 0 +ℤ f i = omega (arith, ints) in
    same ∙ ap (λ (n : ℕ). pos 0 +ℤ f n) (sym here)
sum-last f i (suc k) =
    let next : i + 1 + k ≡ i + suc k = omega arith in
    regrouped (f i) (sum f (i + 1) (suc k)) (sum f (i + 1) k) (f (i + 1 + k)) (sum-last f (i + 1) k)
    ∙ ap (λ (n : ℕ). (f i +ℤ sum f (i + 1) k) +ℤ f n) next

turn-once : (f : ℕ → ℤ) (i k : ℕ) → f (i + k) ≡ f i → sum f (i + 1) k ≡ sum f i k
unfolding sum
turn-once f i k same =
    let last : f i +ℤ sum f (i + 1) k ≡ sum f i k +ℤ f (i + k) = sum-last f i k in
    omega (arith, ints, last, same)

-- of numbers that come again after so many it is the same wherever they begin
pub sum-turn : (f : ℕ → ℤ) (k : ℕ) → ((n : ℕ) → f (n + k) ≡ f n) → (i : ℕ) → sum f i k ≡ sum f 0 k
sum-turn f k turns zero = refl
sum-turn f k turns (suc i) =
    let next : suc i ≡ i + 1 = omega arith in
    ap (λ (n : ℕ). sum f n k) next ∙ turn-once f i k (turns i) ∙ sum-turn f k turns i

size-more : (b k : ℕ) (x s : ℤ) → unsigned_abs x ≤ b → unsigned_abs s ≤ k * b → unsigned_abs (x +ℤ s) ≤ suc k * b
size-more b k x s one rest =
    let more : suc k * b ≡ b + k * b = omega arith in
    omega (arith, ints, one, rest, more)

pub sum-small : (f : ℕ → ℤ) (b : ℕ) → ((n : ℕ) → unsigned_abs (f n) ≤ b) → (i k : ℕ) → unsigned_abs (sum f i k) ≤ k * b
unfolding sum
sum-small f b small i zero = omega arith
sum-small f b small i (suc k) = size-more b k (f i) (sum f (i + 1) k) (small i) (sum-small f b small (i + 1) k)
