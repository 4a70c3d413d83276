-- No more lies in waves that are apart from each other than in the samples themselves.
use Rattle.std.proofs.Common.{◌≡◌, ◌∙◌, ℕ, zero, suc, ◌+◌, ◌*◌, ◌≤◌, Bool, true, List, [], ◌∷◌, map, length, sym, ap, subst, arith, refl, ℤ, pos, negsuc, ◌+ℤ◌, ◌*ℤ◌, neg_ℤ, unsigned_abs, inl, inr}
use lib.IntN.{*ℤ_comm, negsuc-*ℤ-pos}
use Rattle.std.specs.Prelude.{◌&&◌, nat_le}
use Rattle.std.specs.List.{list_all, range_with_len}
use Rattle.std.proofs.lemmas.Bool.{cases_lt, leb-true}
use Rattle.std.proofs.lemmas.Int.{ints, unsigned_abs-mul}
use Rattle.std.proofs.lemmas.List.{length-map}
use Rattle.std.proofs.lemmas.List.FromFn.{length-map-range_with_len}
use Rattle.std.proofs.lemmas.Nat.{mul-le}
use Rattle.xb_ear.specs.Beside.{mixed}
use Rattle.xb_ear.specs.Levels.{correlated, squares}
use Rattle.xb_ear.proofs.Mixed.{correlated-agrees, correlated-mixed, correlated-sum, squares-mixed, two-squares}
use Rattle.xb_ear.proofs.Standing.{and-both}
use Rattle.xb_ear.proofs.Voltages.{square-is}
use Rattle.xb_ear.proofs.Products.{correlated-louder, correlated-times, nothing-times, squares-times, sum-is, times, times-is}

-- 80 samples of a wave
abbrev pub piece : (ℕ → ℤ) → List ℤ
piece wave = map wave (range_with_len 0 80)

-- each wave holds so much, and no more of each later one than so much
abbrev pub are_apart : ℕ → ℕ → List (ℕ → ℤ) → Bool
are_apart q g [] = true
are_apart q g (w ∷ ws) =
    nat_le (squares (piece w)) q && list_all (λ u. nat_le (unsigned_abs (correlated w 0 (piece u))) g) ws && are_apart q g ws

-- what samples give with each of some waves, squared and added
abbrev pub gives : List ℤ → List (ℕ → ℤ) → ℕ
gives vs [] = 0
gives vs (w ∷ ws) = unsigned_abs (correlated w 0 vs) * unsigned_abs (correlated w 0 vs) + gives vs ws

-- the waves together, each as loud as it is in the samples
abbrev together : List ℤ → List (ℕ → ℤ) → ℕ → ℤ
together vs [] = λ n. pos 0
together vs (w ∷ ws) = λ n. correlated w 0 vs *ℤ w n +ℤ together vs ws n

silent-wave : (i : ℕ) (xs : List ℤ) → correlated (λ n. pos 0) i xs ≡ pos 0
unfolding correlated
silent-wave i [] = refl
silent-wave i (x ∷ xs) =
    let none : x *ℤ pos 0 ≡ pos 0 = sym (nothing-times x) in
    let later = silent-wave (i + 1) xs in
    omega (arith, ints, none, later)

joined : (x y : ℤ) (a b : ℕ) → x ≡ pos a → y ≡ pos b → x +ℤ y ≡ pos (a + b)
joined x y a b hx hy = omega (arith, ints, hx, hy)

-- what all together give
gives-together : (vs : List ℤ) (ws : List (ℕ → ℤ)) → correlated (together vs ws) 0 vs ≡ pos (gives vs ws)
gives-together vs [] = silent-wave 0 vs
gives-together vs (w ∷ ws) =
    let c : ℤ = correlated w 0 vs in
    correlated-sum (λ n. c *ℤ w n) (together vs ws) 0 vs
    ∙ joined (correlated (λ n. c *ℤ w n) 0 vs) (correlated (together vs ws) 0 vs) (unsigned_abs c * unsigned_abs c) (gives vs ws)
    (correlated-louder w c 0 vs ∙ sym (square-is c)) (gives-together vs ws)

piece-long : (wave : ℕ → ℤ) → length (piece wave) ≡ 80
piece-long wave = length-map-range_with_len {X = ℤ} wave 0 80

-- one wave more
piece-more : (vs : List ℤ) (w : ℕ → ℤ) (ws : List (ℕ → ℤ))
    → piece (together vs (w ∷ ws)) ≡ mixed (times (correlated w 0 vs) (piece w)) (piece (together vs ws))
piece-more vs w ws =
    sum-is (λ n. correlated w 0 vs *ℤ w n) (together vs ws) 0 80
    ∙ ap (λ (xs : List ℤ). mixed xs (piece (together vs ws))) (times-is w (correlated w 0 vs) 0 80)

times-long : (c : ℤ) (wave : ℕ → ℤ) → length (times c (piece wave)) ≡ 80
times-long c wave = length-map (piece wave) (λ x. c *ℤ x) ∙ piece-long wave

-- silence gives nothing
pub zeros-give : (w : ℕ → ℤ) (i j m : ℕ) → correlated w i (map (λ n. pos 0) (range_with_len j m)) ≡ pos 0
unfolding correlated
zeros-give w i j zero = refl
zeros-give w i j (suc m) =
    let later = zeros-give w (i + 1) (j + 1) m in
    let none : pos 0 *ℤ w i ≡ pos 0 = *ℤ_comm (pos 0) (w i) ∙ sym (nothing-times (w i)) in
    omega (arith, ints, later, none)

zeros-squares : (j m : ℕ) → squares (map (λ n. pos 0) (range_with_len j m)) ≡ 0
unfolding squares
zeros-squares j zero = refl
zeros-squares j (suc m) =
    let later = zeros-squares (j + 1) m in
    omega (arith, later)

-- what a wave gives with all the later ones
few-step : (g c d e n s : ℕ) → 2 * (c * d) ≤ g * (n * (c * c) + s) → e ≤ g
    → (k : ℕ) → 2 * (c * (k * e + d)) ≤ g * ((n + 1) * (c * c) + (k * k + s))
few-step g c d e n s so_far small k =
    let both = two-squares c k in
    let most = mul-le e (2 * (c * k)) g (c * c + k * k) small both in
    omega (arith, so_far, most)

cross-few : (g : ℕ) (vs : List ℤ) (w : ℕ → ℤ) (c : ℕ) (ws : List (ℕ → ℤ))
    → list_all (λ u. nat_le (unsigned_abs (correlated w 0 (piece u))) g) ws ≡ true
    → 2 * (c * unsigned_abs (correlated w 0 (piece (together vs ws)))) ≤ g * (length ws * (c * c) + gives vs ws)
cross-few g vs w c [] all =
    let none : correlated w 0 (piece (λ n. pos 0)) ≡ pos 0 = zeros-give w 0 0 80 in
    let same : c * unsigned_abs (correlated w 0 (piece (λ n. pos 0))) ≡ c * 0 = ap (λ (z : ℤ). c * unsigned_abs z) none in
    omega (arith, same)
cross-few g vs w c (u ∷ ws) all =
    let both : (nat_le (unsigned_abs (correlated w 0 (piece u))) g ≡ true)
    × (list_all (λ u. nat_le (unsigned_abs (correlated w 0 (piece u))) g) ws ≡ true) = and-both _ _ all in
    let k : ℤ = correlated u 0 vs in
    let first : ℤ = correlated w 0 (piece u) in
    let rest : ℤ = correlated w 0 (piece (together vs ws)) in
    let sum : correlated w 0 (piece (together vs (u ∷ ws))) ≡ k *ℤ first +ℤ rest =
    ap (λ (xs : List ℤ). correlated w 0 xs) (piece-more vs u ws)
    ∙ correlated-mixed w 0 (times k (piece u)) (piece (together vs ws)) (piece-long (together vs ws) ∙ sym (times-long k u))
    ∙ ap (λ (z : ℤ). z +ℤ rest) (correlated-times w k 0 (piece u)) in
    let size : unsigned_abs (k *ℤ first) ≡ unsigned_abs k * unsigned_abs first = unsigned_abs-mul k first in
    let less : unsigned_abs (correlated w 0 (piece (together vs (u ∷ ws))))
    ≤ unsigned_abs k * unsigned_abs first + unsigned_abs rest = omega (arith, ints, sum, size) in
    let wide = mul-le c (unsigned_abs (correlated w 0 (piece (together vs (u ∷ ws))))) c
    (unsigned_abs k * unsigned_abs first + unsigned_abs rest) (omega arith) less in
    let step = few-step g c (unsigned_abs rest) (unsigned_abs first) (length ws) (gives vs ws)
    (cross-few g vs w c ws both.1) (leb-true _ _ both.0) (unsigned_abs k) in
    omega (arith, wide, step)

-- the squares of all together
loud-step : (q g n a s u x y : ℕ) → u ≤ (q + n * g) * s → x ≤ a * q → y ≤ g * (n * a + s)
    → x + y + u ≤ (q + (n + 1) * g) * (a + s)
loud-step q g n a s u x y hu hx hy = omega (arith, hu, hx, hy)

together-few : (q g : ℕ) (vs : List ℤ) (ws : List (ℕ → ℤ)) → are_apart q g ws ≡ true
    → squares (piece (together vs ws)) ≤ (q + length ws * g) * gives vs ws
together-few q g vs [] all =
    let none = zeros-squares 0 80 in
    omega (arith, none)
together-few q g vs (w ∷ ws) all =
    let both = and-both _ _ all in
    let firsts = and-both _ _ both.0 in
    let c : ℤ = correlated w 0 vs in
    let a : ℕ = unsigned_abs c * unsigned_abs c in
    let us : List ℤ = piece (together vs ws) in
    let f : ℕ → ℤ = λ n. c *ℤ w n in
    let r : ℤ = correlated w 0 us in
    let is : piece (together vs (w ∷ ws)) ≡ mixed (map f (range_with_len 0 80)) us = sum-is f (together vs ws) 0 80 in
    let all-squares = squares-mixed (λ n. c *ℤ w n) 0 0 0 80 us refl (piece-long (together vs ws)) in
    let cross : correlated (λ k. f (0 + k)) 0 us ≡ c *ℤ r =
    correlated-louder (λ k. w (0 + k)) c 0 us ∙ ap (λ (z : ℤ). c *ℤ z) (from-zero w us) in
    let size : unsigned_abs (c *ℤ r) ≡ unsigned_abs c * unsigned_abs r = unsigned_abs-mul c r in
    let own : squares (map f (range_with_len 0 80)) ≡ a * squares (piece w) =
    ap (λ (xs : List ℤ). squares xs) (times-is w c 0 80) ∙ squares-times c (piece w) in
    let small : squares (piece w) ≤ q = leb-true _ _ firsts.0 in
    let own-few : a * squares (piece w) ≤ a * q = mul-le a (squares (piece w)) a q (omega arith) small in
    let cross-most : 2 * (unsigned_abs c * unsigned_abs r) ≤ g * (length ws * a + gives vs ws) =
    cross-few g vs w (unsigned_abs c) ws firsts.1 in
    let rest : squares us ≤ (q + length ws * g) * gives vs ws = together-few q g vs ws both.1 in
    let step = loud-step q g (length ws) a (gives vs ws) (squares us) (a * squares (piece w))
    (2 * (unsigned_abs c * unsigned_abs r)) rest own-few cross-most in
    let less : squares (mixed (map f (range_with_len 0 80)) us)
    ≤ a * squares (piece w) + 2 * (unsigned_abs c * unsigned_abs r) + squares us =
    omega (arith, ints, all-squares, cross, size, own) in
    let same : squares (piece (together vs (w ∷ ws))) ≡ squares (mixed (map f (range_with_len 0 80)) us) =
    ap (λ (xs : List ℤ). squares xs) is in
    let more : suc (length ws) ≡ length ws + 1 = omega arith in
    subst (λ (n : ℕ). squares (piece (together vs (w ∷ ws))) ≤ (q + n * g) * (a + gives vs ws)) (sym more)
    (omega (arith, same, less, step))
  where
    from-zero : (w : ℕ → ℤ) (xs : List ℤ) → correlated (λ k. w (0 + k)) 0 xs ≡ correlated w 0 xs
    from-zero w xs = correlated-agrees (λ k. w (0 + k)) w (λ k. let e : 0 + k ≡ k = omega arith in ap w e) 0 xs

-- so they give no more than so many times the squares of the samples
pub bessel : (q g l : ℕ) (ws : List (ℕ → ℤ)) → are_apart q g ws ≡ true → q + length ws * g ≤ suc l → (vs : List ℤ)
    → length vs ≡ 80 → gives vs ws ≤ suc l * squares vs
bessel q g l ws all fits vs long =
    let big : ℕ = suc l in
    let u : ℕ → ℤ = together vs ws in
    let ds : List ℤ = times (negsuc l) vs in
    let count : length ds ≡ 80 = length-map vs (λ x. negsuc l *ℤ x) ∙ long in
    let sum = squares-mixed u 0 0 0 80 ds refl count in
    let cross : correlated (λ k. u (0 + k)) 0 ds ≡ negsuc l *ℤ pos (gives vs ws) =
    correlated-agrees (λ k. u (0 + k)) u (λ k. let e : 0 + k ≡ k = omega arith in ap u e) 0 ds
    ∙ correlated-times u (negsuc l) 0 vs ∙ ap (λ (z : ℤ). negsuc l *ℤ z) (gives-together vs ws) in
    let minus : negsuc l *ℤ pos (gives vs ws) ≡ neg_ℤ (pos (big * gives vs ws)) = negsuc-*ℤ-pos l (gives vs ws) in
    let own : squares ds ≡ big * big * squares vs = squares-times (negsuc l) vs in
    let few = together-few q g vs ws all in
    let most : (q + length ws * g) * gives vs ws ≤ big * gives vs ws =
    mul-le (q + length ws * g) (gives vs ws) big (gives vs ws) fits (omega arith) in
    let twice : 2 * (big * gives vs ws) ≤ squares (piece u) + big * big * squares vs =
    omega (arith, ints, sum, cross, minus, own) in
    let once : big * gives vs ws ≤ big * (big * squares vs) =
    let same : big * (big * squares vs) ≡ big * big * squares vs = omega arith in
    omega (arith, twice, few, most, same) in
    cancel l (gives vs ws) (big * squares vs) once
  where
    cancel : (l x y : ℕ) → suc l * x ≤ suc l * y → x ≤ y
    cancel l x y less = elim (cases_lt y x) [
      | inr fine ↦ fine
      | inl more ↦
          let big = mul-le (suc l) (y + 1) (suc l) x (omega arith) (omega (arith, more)) in
          absurd (omega (arith, big, less))
    ]
