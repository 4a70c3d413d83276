-- What lies beside the six frequencies is no less than what any other wave gives that is apart from them.
use Rattle.std.proofs.Common.{◌≡◌, ◌∙◌, ℕ, ◌+◌, ◌*◌, ◌/◌, ◌^◌, ◌≤◌, true, List, [], ◌∷◌, length, ap, arith, ℤ, pos, ◌*ℤ◌, unsigned_abs}
use Rattle.std.proofs.Math.Nat.{pow-succ', pow-zero}
use Rattle.std.proofs.lemmas.Int.{unsigned_abs-mul}
use Rattle.std.proofs.lemmas.Nat.{mul-le}
use Rattle.xb_ear.specs.Levels.{correlated, cosine_of, level, levels_of, power, sine_of, squares, total}
use Rattle.xb_ear.specs.Steady.{beside}
use Rattle.xb_ear.proofs.Bessel.{are_apart, bessel}
use lib.IntN.{*ℤ_comm}
use Rattle.xb_ear.proofs.Products.{nothing-times, times-more}

-- the waves of the six, and a steady one, which gives the mean
abbrev pub steady_wave : ℕ → ℤ
steady_wave n = pos 7072

abbrev pub six_waves : List (ℕ → ℤ)
six_waves =
    sine_of 700 ∷ cosine_of 700 ∷ sine_of 900 ∷ cosine_of 900 ∷ sine_of 1100 ∷ cosine_of 1100 ∷ sine_of 1300 ∷ cosine_of 1300
    ∷ sine_of 1500 ∷ cosine_of 1500 ∷ sine_of 1700 ∷ cosine_of 1700 ∷ steady_wave ∷ []

steady-gives : (i : ℕ) (xs : List ℤ) → correlated steady_wave i xs ≡ pos 7072 *ℤ total xs
unfolding correlated total
steady-gives i [] = nothing-times (pos 7072)
steady-gives i (x ∷ xs) =
    times-more (pos 7072) (x *ℤ pos 7072) x (correlated steady_wave (i + 1) xs) (total xs) (*ℤ_comm x (pos 7072))
    (steady-gives (i + 1) xs)

pub squared : (n : ℕ) → n ^ 2 ≡ n * n
squared n =
    let one : n ^ 1 ≡ n * n ^ 0 = pow-succ' n 0 in
    let none : n ^ 0 ≡ 1 = pow-zero n in
    pow-succ' n 1 ∙ ap (λ (k : ℕ). n * k) one ∙ ap (λ (k : ℕ). n * (n * k)) none ∙ (omega arith)

-- a level is a part of what its waves give
part-few : (k : ℕ) → 160000000000 * (k / 400000) ^ 2 ≤ k * k
part-few k =
    let few : 400000 * (k / 400000) ≤ k = omega arith in
    let both = mul-le (400000 * (k / 400000)) (400000 * (k / 400000)) k k few few in
    let square = squared (k / 400000) in
    let same : 400000 * (k / 400000) * (400000 * (k / 400000)) ≡ 160000000000 * ((k / 400000) * (k / 400000)) = omega arith in
    omega (arith, both, square, same)

level-few : (ys : List ℤ) (hz : ℕ)
    → 160000000000 * level ys hz
    ≤ unsigned_abs (correlated (sine_of hz) 0 ys) * unsigned_abs (correlated (sine_of hz) 0 ys)
    + unsigned_abs (correlated (cosine_of hz) 0 ys) * unsigned_abs (correlated (cosine_of hz) 0 ys)
level-few ys hz =
    omega (arith, part-few (unsigned_abs (correlated (sine_of hz) 0 ys)), part-few (unsigned_abs (correlated (cosine_of hz) 0 ys)))

pub beside-least : (w : ℕ → ℤ) → are_apart 4001100000 230000 (w ∷ six_waves) ≡ true → (ys : List ℤ) → length ys ≡ 80
    → unsigned_abs (correlated w 0 ys) * unsigned_abs (correlated w 0 ys)
    ≤ 160000000000 * beside (levels_of ys) + 160000000000 + 4320000 * squares ys
beside-least w apart ys long =
    let t : ℕ = unsigned_abs (total ys) in
    let all = bessel 4001100000 230000 4004319999 (w ∷ six_waves) apart (omega arith) ys long in
    let mean : unsigned_abs (correlated steady_wave 0 ys) ≡ 7072 * t =
    ap (λ (z : ℤ). unsigned_abs z) (steady-gives 0 ys) ∙ unsigned_abs-mul (pos 7072) (total ys) in
    let means : unsigned_abs (correlated steady_wave 0 ys) * unsigned_abs (correlated steady_wave 0 ys) ≡ 7072 * t * (7072 * t) =
    ap (λ (n : ℕ). n * n) mean in
    let same : 7072 * t * (7072 * t) ≡ 50013184 * (t * t) = omega arith in
    let power-is : 80 * squares ys ≤ 3200 * power ys + 3199 + t * t = omega arith in
    omega (
      arith,
      all,
      means,
      same,
      power-is,
      level-few ys 700,
      level-few ys 900,
      level-few ys 1100,
      level-few ys 1300,
      level-few ys 1500,
      level-few ys 1700,
    )
