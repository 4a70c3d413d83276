-- A louder steady sine: it is steady, for in each window as much lies beside the six, at edges too.
use Rattle.std.proofs.Common.{◌≡◌, ◌∙◌, ℕ, zero, suc, ◌+◌, ◌-◌, ◌*◌, ◌/◌, ◌%◌, ◌≤◌, true, List, [], ◌∷◌, ◌++◌, map, length, arith, ℤ, pos, ◌+ℤ◌, unsigned_abs}
use Rattle.std.specs.List.{range_with_len}
use Rattle.std.proofs.lemmas.Int.{ints}
use Rattle.std.proofs.lemmas.Nat.{mul-le}
use Rattle.xb_model.specs.declared.key.Key.{Key}
use Rattle.xb_model.specs.declared.key.Key.TheVariants.{Digit, Kp, St}
use Rattle.xb_model.specs.declared.key.Tone.{Tone as Pair}
use Rattle.xb_model.specs.MfPairs.{mf_pair, pair}
use Rattle.xb_sound.specs.HeardKeys.{IsKey}
use Rattle.xb_sound.specs.Sines.{pair_sample, sine_at}
use Rattle.xb_sound.proofs.KeyWaves.{each_digit}
use Rattle.xb_sound.proofs.SineTables.{sine_at-small}
use Rattle.xb_ear.specs.Beside.{mixed}
use Rattle.xb_ear.specs.Levels.{correlated, levels_of, squares}
use Rattle.xb_ear.specs.Steady.{beside}
use Rattle.xb_ear.proofs.Bessel.{are_apart, zeros-give}
use Rattle.xb_ear.proofs.Edges.{HoldsOfEdges}
use Rattle.xb_ear.proofs.Mixed.{correlated-mixed, mixed-length, two-squares}
use Rattle.xb_ear.proofs.Others.{beside-least, six_waves}
use Rattle.xb_ear.proofs.Pieces.{MOST_OF_TONE, is_low_with, tone-begins, tone-ends}
use Rattle.xb_ear.proofs.Shown.{still}

-- a tone is nowhere greater than 20,000
two-small : (x y : ℤ) → unsigned_abs x ≤ 10000 → unsigned_abs y ≤ 10000 → unsigned_abs (x +ℤ y) ≤ 20000
two-small x y first second = omega (arith, ints, first, second)

pair-small : (p : Pair) (k : ℕ) → unsigned_abs (pair_sample p k) ≤ 20000
pair-small p k =
    two-small (sine_at (p.low * k / 100 % 80)) (sine_at (p.high * k / 100 % 80)) (sine_at-small (p.low * k / 100 % 80))
    (sine_at-small (p.high * k / 100 % 80))

small-squares : (f : ℕ → ℤ) → ((k : ℕ) → unsigned_abs (f k) ≤ 20000) → (m n : ℕ)
    → squares (map f (range_with_len n m)) ≤ m * 400000000
unfolding squares
small-squares f small zero n = omega arith
small-squares f small (suc m) n =
    let here = mul-le (unsigned_abs (f n)) (unsigned_abs (f n)) 20000 20000 (small n) (small n) in
    let later = small-squares f small m (n + 1) in
    omega (arith, here, later)

squares-append : (xs ys : List ℤ) → squares (xs ++ ys) ≡ squares xs + squares ys
unfolding squares
squares-append [] ys = omega arith
squares-append (x ∷ xs) ys =
    let later = squares-append xs ys in
    omega (arith, later)

-- the squares of a sum are no more than twice the squares
sum-squares : (x y : ℤ) → unsigned_abs (x +ℤ y) * unsigned_abs (x +ℤ y) ≤ 2 * (unsigned_abs x * unsigned_abs x + unsigned_abs y * unsigned_abs y)
sum-squares x y =
    let size : unsigned_abs (x +ℤ y) ≤ unsigned_abs x + unsigned_abs y = omega (arith, ints) in
    let wide = mul-le (unsigned_abs (x +ℤ y)) (unsigned_abs (x +ℤ y)) (unsigned_abs x + unsigned_abs y) (unsigned_abs x + unsigned_abs y) size size in
    let both = two-squares (unsigned_abs x) (unsigned_abs y) in
    omega (arith, wide, both)

mixed-squares : (xs ds : List ℤ) → squares (mixed xs ds) ≤ 2 * (squares xs + squares ds)
unfolding squares
mixed-squares [] ds = omega arith
mixed-squares (x ∷ xs) [] = omega arith
mixed-squares (x ∷ xs) (d ∷ ds) =
    let here = sum-squares x d in
    let later = mixed-squares xs ds in
    omega (arith, here, later)

-- a clean window gives little with a wave, and is not too loud
pub record IsMild (wave : ℕ → ℤ) (ts : List ℤ) : Type 0 where
  pub gives : unsigned_abs (correlated wave 0 ts) ≤ 2 * MOST_OF_TONE
  pub loud : squares ts ≤ 32000000000

none-little : (x : ℤ) → x ≡ pos 0 → unsigned_abs x ≤ 2 * MOST_OF_TONE
none-little x none = omega (arith, ints, none)

pub record AreLowWith (wave : ℕ → ℤ) : Type 0 where
  pub w700 : is_low_with wave 700 ≡ true
  pub w900 : is_low_with wave 900 ≡ true
  pub w1100 : is_low_with wave 1100 ≡ true
  pub w1300 : is_low_with wave 1300 ≡ true
  pub w1500 : is_low_with wave 1500 ≡ true
  pub w1700 : is_low_with wave 1700 ≡ true

still-small : (k : ℕ) → unsigned_abs (still k) ≤ 20000
still-small k = omega arith

two-loud : (xs ys : List ℤ) (m n : ℕ) → squares xs ≤ m * 400000000 → squares ys ≤ n * 400000000 → m + n ≡ 80
    → squares (xs ++ ys) ≤ 32000000000
two-loud xs ys m n first second all =
    let sum = squares-append xs ys in
    omega (arith, sum, first, second, all)

module _ (wave : ℕ → ℤ) (a b : ℕ) (low : is_low_with wave (a * 100) ≡ true) (high : is_low_with wave (b * 100) ≡ true) where
  abbrev tone : ℕ → ℤ
  tone k = pair_sample (pair (a * 100) (b * 100)) k

  begins-mild : (i : ℕ) → i ≤ 80
      → IsMild wave (map still (range_with_len 0 i) ++ map tone (range_with_len 0 (80 - i)))
  begins-mild i short = record {
    gives = tone-begins wave a b low high i short;
    loud = two-loud (map still (range_with_len 0 i)) (map tone (range_with_len 0 (80 - i))) i (80 - i)
        (small-squares still still-small i 0) (small-squares tone (λ k. pair-small (pair (a * 100) (b * 100)) k) (80 - i) 0)
        (omega (arith, short));
  }

  ends-mild : (n m : ℕ) → m ≤ 80
      → IsMild wave (map tone (range_with_len n m) ++ map still (range_with_len 0 (80 - m)))
  ends-mild n m short = record {
    gives = tone-ends wave a b low high n m (80 - m) short;
    loud = two-loud (map tone (range_with_len n m)) (map still (range_with_len 0 (80 - m))) m (80 - m)
        (small-squares tone (λ k. pair-small (pair (a * 100) (b * 100)) k) m n) (small-squares still still-small (80 - m) 0)
        (omega (arith, short));
  }

module _ (wave : ℕ → ℤ) (low : AreLowWith wave) where
  abbrev KeyBegins : Key → Type 0
  KeyBegins key = (i : ℕ) → i ≤ 80
      → IsMild wave (map still (range_with_len 0 i) ++ map (λ k. pair_sample (mf_pair key) k) (range_with_len 0 (80 - i)))

  abbrev KeyEnds : Key → Type 0
  KeyEnds key = (n m : ℕ) → m ≤ 80
      → IsMild wave (map (λ k. pair_sample (mf_pair key) k) (range_with_len n m) ++ map still (range_with_len 0 (80 - m)))

  key-begins : (key : Key) → IsKey key → KeyBegins key
  key-begins Kp is = begins-mild wave 11 17 low.w1100 low.w1700
  key-begins St is = begins-mild wave 15 17 low.w1500 low.w1700
  key-begins (Digit d) is =
      each_digit (λ d. KeyBegins (Digit d))
      (begins-mild wave 13 15 low.w1300 low.w1500)
      (begins-mild wave 7 9 low.w700 low.w900)
      (begins-mild wave 7 11 low.w700 low.w1100)
      (begins-mild wave 9 11 low.w900 low.w1100)
      (begins-mild wave 7 13 low.w700 low.w1300)
      (begins-mild wave 9 13 low.w900 low.w1300)
      (begins-mild wave 11 13 low.w1100 low.w1300)
      (begins-mild wave 7 15 low.w700 low.w1500)
      (begins-mild wave 9 15 low.w900 low.w1500)
      (begins-mild wave 11 15 low.w1100 low.w1500)
      d is

  key-ends : (key : Key) → IsKey key → KeyEnds key
  key-ends Kp is = ends-mild wave 11 17 low.w1100 low.w1700
  key-ends St is = ends-mild wave 15 17 low.w1500 low.w1700
  key-ends (Digit d) is =
      each_digit (λ d. KeyEnds (Digit d))
      (ends-mild wave 13 15 low.w1300 low.w1500)
      (ends-mild wave 7 9 low.w700 low.w900)
      (ends-mild wave 7 11 low.w700 low.w1100)
      (ends-mild wave 9 11 low.w900 low.w1100)
      (ends-mild wave 7 13 low.w700 low.w1300)
      (ends-mild wave 9 13 low.w900 low.w1300)
      (ends-mild wave 11 13 low.w1100 low.w1300)
      (ends-mild wave 7 15 low.w700 low.w1500)
      (ends-mild wave 9 15 low.w900 low.w1500)
      (ends-mild wave 11 15 low.w1100 low.w1500)
      d is

  pub edges-mild : HoldsOfEdges (IsMild wave)
  edges-mild = record {
    quiet = record {
      gives = none-little (correlated wave 0 (map still (range_with_len 0 80))) (zeros-give wave 0 0 80);
      loud = small-squares still still-small 80 0;
    };
    begins = key-begins;
    ends = key-ends;
  }

-- what lies beside a mix of clean samples and a loud sine
abbrev pub LOUD_LEAST : ℕ
LOUD_LEAST = 8250000

pub loud-beside : (wave : ℕ → ℤ) → are_apart 4001100000 230000 (wave ∷ six_waves) ≡ true → (ts ds : List ℤ)
    → length ts ≡ 80 → length ds ≡ length ts → IsMild wave ts → squares ds ≤ 40 * (12790 * 12790)
    → 3250000000 ≤ unsigned_abs (correlated wave 0 ds) → LOUD_LEAST ≤ beside (levels_of (mixed ts ds))
loud-beside wave apart ts ds many long mild loud much =
    let ys = mixed ts ds in
    let sum = correlated-mixed wave 0 ts ds long in
    let left : 2370000000 ≤ unsigned_abs (correlated wave 0 ys) = omega (arith, ints, sum, mild.gives, much) in
    let square = mul-le 2370000000 2370000000 (unsigned_abs (correlated wave 0 ys)) (unsigned_abs (correlated wave 0 ys)) left left in
    let all = beside-least wave apart ys (mixed-length ts ds long ∙ many) in
    let few = mixed-squares ts ds in
    omega (arith, square, all, few, mild.loud, loud)
