-- The sums of weighted samples, from any of them on.
use Rattle.std.proofs.Common.{◌≡◌, ◌∙◌, ℕ, ◌+◌, ◌*◌, ◌<◌, ◌≤◌, zero, suc, Bool, true, false, ◌&&◌, List, [], ◌∷◌, drop, get_or, length, leb, sym, ap, ap₂, arith, refl, ℤ, pos, ◌+ℤ◌, ◌*ℤ◌, unsigned_abs, to_z, of_z, FitsSigned}
use Rattle.std.specs.Int.{w64}
use Rattle.std.specs.List.{list_all}
use Rattle.std.proofs.lemmas.Bool.{leb-true}
use Rattle.std.proofs.lemmas.Int.{ints, to_z-of_z, fits_signed_from_abs, unsigned_abs-mul}
use Rattle.std.proofs.lemmas.List.{drop_all, drop_more}
use Rattle.std.proofs.lemmas.Nat.{mul-le}
use Rattle.xb_measured.specs.Waves.{weighed, weights}

both : (b c : Bool) → (b && c) ≡ true → (b ≡ true) × (c ≡ true)
both true true e = (refl, refl)
both true false e = absurd (cc)
both false c e = absurd (cc)

-- no weight is greater
abbrev is_light : ℕ → Bool
is_light n = leb n 2000

light-at : (xs : List ℕ) → list_all is_light xs ≡ true → (n : ℕ) → get_or xs n 0 ≤ 2000
light-at [] all n = omega arith
light-at (x ∷ xs) all zero = leb-true _ _ (both (is_light x) (list_all is_light xs) all).0
light-at (x ∷ xs) all (suc n) = light-at xs (both (is_light x) (list_all is_light xs) all).1 n

pub weight-light : (place : ℕ) → get_or weights place 0 ≤ 2000
unfolding weights
weight-light place = light-at weights refl place

pub weights-all : length weights ≡ 160
unfolding weights
weights-all = refl

none-weighed : (w : ℕ → ℤ) (n : ℕ) (ws : List ℕ) → weighed w n ws [] ≡ pos 0
unfolding weighed
none-weighed w n [] = refl
none-weighed w n (a ∷ ws) = refl

-- none is left
pub weighed-end : (w : ℕ → ℤ) (n i : ℕ) (ws : List ℕ) (xs : List ℤ) → length xs ≤ i
    → weighed w n (drop i ws) (drop i xs) ≡ pos 0
weighed-end w n i ws xs past =
    ap (λ (ys : List ℤ). weighed w n (drop i ws) ys) (drop_all i xs past) ∙ none-weighed w n (drop i ws)

weighed-step : (w : ℕ → ℤ) (n i : ℕ) (ws : List ℕ) (xs : List ℤ) (d : ℕ) (e : ℤ) → i < length ws → i < length xs
    → weighed w n (drop i ws) (drop i xs)
    ≡ pos (get_or ws i d) *ℤ get_or xs i e *ℤ w n +ℤ weighed w (n + 1) (drop (i + 1) ws) (drop (i + 1) xs)
unfolding weighed
weighed-step w n i ws xs d e few below =
    ap₂ (λ (bs : List ℕ) (ys : List ℤ). weighed w n bs ys) (drop_more ws i d few) (drop_more xs i e below)

-- a sum so far, with one product more
pub weighed-more : (w : ℕ → ℤ) (n i : ℕ) (ws : List ℕ) (xs : List ℤ) (d : ℕ) (e sum p new all : ℤ) → i < length ws
    → i < length xs → sum +ℤ weighed w n (drop i ws) (drop i xs) ≡ all
    → p ≡ pos (get_or ws i d) *ℤ get_or xs i e *ℤ w n → new ≡ sum +ℤ p
    → new +ℤ weighed w (n + 1) (drop (i + 1) ws) (drop (i + 1) xs) ≡ all
weighed-more w n i ws xs d e sum p new all few below so_far is added =
    let c : ℤ = weighed w (n + 1) (drop (i + 1) ws) (drop (i + 1) xs) in
    let before : weighed w n (drop i ws) (drop i xs) ≡ p +ℤ c =
    weighed-step w n i ws xs d e few below ∙ ap (λ (z : ℤ). z +ℤ c) (sym is) in
    let regroup : new +ℤ c ≡ sum +ℤ weighed w n (drop i ws) (drop i xs) = omega (arith, ints) in
    regroup ∙ so_far

pub weighed-bound : (i : ℕ) (sum p new : ℤ) → unsigned_abs sum ≤ 655360000000 * i → unsigned_abs p ≤ 655360000000
    → new ≡ sum +ℤ p → unsigned_abs new ≤ 655360000000 * (i + 1)
weighed-bound i sum p new so_far one added = omega (arith, ints)

-- no such sum wraps
pub weighed-sum : (i : ℕ) (sum p : ℤ) → unsigned_abs sum ≤ 655360000000 * i → unsigned_abs p ≤ 655360000000 → i < 160
    → to_z w64 (of_z w64 (sum +ℤ to_z w64 (of_z w64 p))) ≡ sum +ℤ p
weighed-sum i sum p so_far one below =
    let all : unsigned_abs (sum +ℤ p) ≤ 655360000000 * (i + 1) = weighed-bound i sum p (sum +ℤ p) so_far one refl in
    ap (λ (z : ℤ). to_z w64 (of_z w64 (sum +ℤ z))) (to_z-of_z w64 p (fits_signed_from_abs w64 p (omega arith)))
    ∙ to_z-of_z w64 (sum +ℤ p) (fits_signed_from_abs w64 (sum +ℤ p) (omega arith))

abbrev pub same64 : ℤ → ℤ
same64 z = to_z w64 (of_z w64 z)

kept64 : (z : ℤ) → unsigned_abs z ≤ 655360000000 → same64 z ≡ z
kept64 z small = to_z-of_z w64 z (fits_signed_from_abs w64 z (omega (arith, small)))

first-small : (w : ℕ) (x : ℤ) → w ≤ 2000 → unsigned_abs x ≤ 32768 → unsigned_abs (pos w *ℤ x) ≤ 65536000
first-small w x light low =
    let m = unsigned_abs-mul (pos w) x in
    let most = mul-le w (unsigned_abs x) 2000 32768 light low in
    omega (arith, m, most)

pub product-small : (w : ℕ) (x y : ℤ) → w ≤ 2000 → unsigned_abs x ≤ 32768 → unsigned_abs y ≤ 10000
    → unsigned_abs (pos w *ℤ x *ℤ y) ≤ 655360000000
product-small w x y light low small =
    let m = unsigned_abs-mul (pos w *ℤ x) y in
    let most = mul-le (unsigned_abs (pos w *ℤ x)) (unsigned_abs y) 65536000 10000 (first-small w x light low) small in
    omega (arith, m, most)

module _ (w : ℕ) (x y p q r : ℤ) (light : w ≤ 2000) (low : unsigned_abs x ≤ 32768) (small : unsigned_abs y ≤ 10000)
    (is-w : p ≡ pos w) (is-x : q ≡ x) (is-y : r ≡ y) where
  two-is : same64 (same64 p *ℤ same64 q) ≡ pos w *ℤ x
  two-is =
      ap₂ (λ (a b : ℤ). same64 (same64 a *ℤ same64 b)) is-w is-x
      ∙ ap₂ (λ (a b : ℤ). same64 (a *ℤ b)) (kept64 (pos w) (omega (arith, ints, light))) (kept64 x (omega (arith, low)))
      ∙ kept64 (pos w *ℤ x) (omega (arith, first-small w x light low))

  one-is : same64 r ≡ y
  one-is = ap (λ (a : ℤ). same64 a) is-y ∙ kept64 y (omega (arith, small))

  -- the product is kept as it is
  pub product-is : same64 (same64 (same64 p *ℤ same64 q) *ℤ same64 r) ≡ pos w *ℤ x *ℤ y
  product-is =
      ap₂ (λ (a b : ℤ). same64 (a *ℤ b)) two-is one-is ∙ kept64 (pos w *ℤ x *ℤ y) (product-small w x y light low small)

  pub product-fits : FitsSigned w64 (same64 (same64 p *ℤ same64 q) *ℤ same64 r)
  product-fits =
      fits_signed_from_abs w64 (same64 (same64 p *ℤ same64 q) *ℤ same64 r)
      (let same = ap₂ (λ (a b : ℤ). unsigned_abs (a *ℤ b)) two-is one-is in
      let below = product-small w x y light low small in omega (arith, same, below))
