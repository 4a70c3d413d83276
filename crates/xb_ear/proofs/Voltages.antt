-- A steady voltage changes nothing: no level of a window, and no power but for the mean.
use Rattle.std.proofs.Common.{◌≡◌, ◌∙◌, ℕ, zero, suc, ◌+◌, ◌-◌, ◌*◌, ◌/◌, ◌^◌, ◌<◌, ◌≤◌, Bool, true, false, List, [], ◌∷◌, ◌++◌, map, take, drop, fold, length, sym, ap, subst, arith, refl, ℤ, pos, negsuc, ◌+ℤ◌, ◌*ℤ◌, unsigned_abs, Option, length-drop, length-take, None}
use lib.IntN.{*ℤ_comm, negsuc-*ℤ-negsuc, pos-*ℤ-pos, suc_ℤ-*ℤ}
use borrow.Author.Differences.{down, up}
use Rattle.std.specs.Prelude.{if◌then◌else◌, nat_lt}
use Rattle.std.specs.List.{range_with_len}
use Rattle.std.proofs.lemmas.Int.{ints}
use Rattle.std.proofs.lemmas.Bool.{ltb-false}
use Rattle.std.proofs.lemmas.List.{drop-map, length-map, take-map}
use Rattle.xb_model.specs.Image.{image_on}
use Rattle.xb_sound.specs.Sines.{sine_table}
use Rattle.xb_ear.specs.declared.levels.Levels.{Levels}
use Rattle.xb_ear.specs.declared.sight.Sight.{Sight}
use Rattle.xb_ear.specs.declared.hearing.Heard.{Heard}
use Rattle.xb_ear.specs.declared.echo_tails.TheConstants.{TAIL_WINDOWS}
use Rattle.xb_ear.specs.Ears.{held, held_before, least_before, seen_at, sight_at, sights, window, windows_in}
use Rattle.xb_ear.specs.Hearings.{hearer, listed}
use Rattle.xb_ear.specs.Levels.{correlated, cosine_of, level, levels_of, part, power, sine_of, squares, total}
use Rattle.xb_ear.specs.Pairs.{first_pair, mf_pairs, seen}
use Rattle.xb_ear.specs.Steady.{beside, lessened}
use Rattle.xb_ear.specs.Tails.{without_tail}
use Rattle.xb_ear.specs.Voltages.{VoltagesChangeNothing}
use Rattle.xb_ear.proofs.Windows.{map-agrees, window-fits}

abbrev raised : ℤ → List ℤ → List ℤ
raised c xs = map (λ (x : ℤ). x +ℤ c) xs

pub distributes : (x c w : ℤ) → (x +ℤ c) *ℤ w ≡ x *ℤ w +ℤ c *ℤ w
distributes x c w =
    let s : up (x +ℤ c) + down x + down c ≡ down (x +ℤ c) + up x + up c = omega (arith, ints) in
    let a : (up (x +ℤ c) + down x + down c) * up w ≡ (down (x +ℤ c) + up x + up c) * up w = ap (λ (k : ℕ). k * up w) s in
    let b : (up (x +ℤ c) + down x + down c) * down w ≡ (down (x +ℤ c) + up x + up c) * down w =
    ap (λ (k : ℕ). k * down w) s in
    omega (arith, ints, a, b)

pub distributes-right : (w x c : ℤ) → w *ℤ (x +ℤ c) ≡ w *ℤ x +ℤ w *ℤ c
distributes-right w x c =
    *ℤ_comm w (x +ℤ c) ∙ distributes x c w ∙ ap (λ (z : ℤ). z +ℤ c *ℤ w) (*ℤ_comm x w) ∙ ap (λ (z : ℤ). w *ℤ x +ℤ z) (*ℤ_comm c w)

-- 80 times a number, times another
eighty : (c w : ℤ) → (pos 80 *ℤ c) *ℤ w ≡ pos 80 *ℤ (c *ℤ w)
eighty c w =
    let s : up (pos 80 *ℤ c) + 80 * down c ≡ down (pos 80 *ℤ c) + 80 * up c = omega (arith, ints) in
    let a : (up (pos 80 *ℤ c) + 80 * down c) * up w ≡ (down (pos 80 *ℤ c) + 80 * up c) * up w = ap (λ (k : ℕ). k * up w) s in
    let b : (up (pos 80 *ℤ c) + 80 * down c) * down w ≡ (down (pos 80 *ℤ c) + 80 * up c) * down w =
    ap (λ (k : ℕ). k * down w) s in
    omega (arith, ints, a, b)

-- the square of a sum
squared-sum : (s u v tt et te ee : ℤ) → s ≡ u +ℤ v → u ≡ tt +ℤ te → v ≡ et +ℤ ee → te ≡ et → s ≡ tt +ℤ (et +ℤ et) +ℤ ee
squared-sum s u v tt et te ee hs hu hv same = omega (arith, ints)

pub square-of-sum : (t e : ℤ) → (t +ℤ e) *ℤ (t +ℤ e) ≡ t *ℤ t +ℤ (e *ℤ t +ℤ e *ℤ t) +ℤ e *ℤ e
square-of-sum t e =
    squared-sum ((t +ℤ e) *ℤ (t +ℤ e)) (t *ℤ (t +ℤ e)) (e *ℤ (t +ℤ e)) (t *ℤ t) (e *ℤ t) (t *ℤ e) (e *ℤ e)
    (distributes t e (t +ℤ e)) (distributes-right t t e) (distributes-right e t e) (*ℤ_comm t e)

pub square-is : (a : ℤ) → pos (unsigned_abs a * unsigned_abs a) ≡ a *ℤ a
square-is (pos n) = sym (pos-*ℤ-pos n n)
square-is (negsuc n) = sym (negsuc-*ℤ-negsuc n n)

one-more : (n : ℕ) (c : ℤ) → pos (suc n) *ℤ c ≡ pos n *ℤ c +ℤ c
one-more n c = suc_ℤ-*ℤ (pos n) c

-- the sum
total-more : (x c t u m n : ℤ) → u ≡ t +ℤ m → n ≡ m +ℤ c → (x +ℤ c) +ℤ u ≡ (x +ℤ t) +ℤ n
total-more x c t u m n hu hn = omega (arith, ints)

total-raised : (c : ℤ) (xs : List ℤ) → total (raised c xs) ≡ total xs +ℤ pos (length xs) *ℤ c
unfolding total
total-raised c [] = omega (arith, ints)
total-raised c (x ∷ xs) =
    total-more x c (total xs) (total (raised c xs)) (pos (length xs) *ℤ c) (pos (suc (length xs)) *ℤ c)
    (total-raised c xs) (one-more (length xs) c)

-- the sum of the squares
squares-more : (s u y m n a d t x z k : ℤ) → s ≡ y +ℤ u → u ≡ a +ℤ (t +ℤ t) +ℤ m → y ≡ d +ℤ (x +ℤ x) +ℤ k → n ≡ m +ℤ k
    → z ≡ x +ℤ t → s ≡ (d +ℤ a) +ℤ (z +ℤ z) +ℤ n
squares-more s u y m n a d t x z k hs hu hy hn hz = omega (arith, ints)

squares-raised : (c : ℤ) (xs : List ℤ)
    → pos (squares (raised c xs))
    ≡ pos (squares xs) +ℤ (c *ℤ total xs +ℤ c *ℤ total xs) +ℤ pos (length xs) *ℤ (c *ℤ c)
unfolding squares total
squares-raised c [] = omega (arith, ints)
squares-raised c (x ∷ xs) =
    let y : ℤ = x +ℤ c in
    let here : ℕ = unsigned_abs y * unsigned_abs y in
    let there : ℕ = unsigned_abs x * unsigned_abs x in
    let sum : pos (here + squares (raised c xs)) ≡ pos here +ℤ pos (squares (raised c xs)) = omega (arith, ints) in
    let square : pos here ≡ pos there +ℤ (c *ℤ x +ℤ c *ℤ x) +ℤ c *ℤ c =
    square-is y ∙ square-of-sum x c ∙ ap (λ (z : ℤ). z +ℤ (c *ℤ x +ℤ c *ℤ x) +ℤ c *ℤ c) (sym (square-is x)) in
    let both : pos there +ℤ pos (squares xs) ≡ pos (there + squares xs) = omega (arith, ints) in
    squares-more (pos (here + squares (raised c xs))) (pos (squares (raised c xs))) (pos here)
    (pos (length xs) *ℤ (c *ℤ c)) (pos (suc (length xs)) *ℤ (c *ℤ c)) (pos (squares xs)) (pos there) (c *ℤ total xs) (c *ℤ x)
    (c *ℤ (x +ℤ total xs)) (c *ℤ c) sum (squares-raised c xs) square (one-more (length xs) (c *ℤ c))
    (distributes-right c x (total xs))
    ∙ ap (λ (z : ℤ). z +ℤ (c *ℤ (x +ℤ total xs) +ℤ c *ℤ (x +ℤ total xs)) +ℤ pos (suc (length xs)) *ℤ (c *ℤ c)) both

-- the power but for the mean
power-same : (a b s t : ℕ) (ct cc et ee ce tt uu : ℤ) → pos b ≡ pos a +ℤ (ct +ℤ ct) +ℤ pos 80 *ℤ cc → pos s ≡ tt → pos t ≡ uu
    → uu ≡ tt +ℤ (et +ℤ et) +ℤ ee → et ≡ pos 80 *ℤ ct → ee ≡ pos 80 *ℤ ce → ce ≡ pos 80 *ℤ cc
    → 80 * b - t ≡ 80 * a - s
power-same a b s t ct cc et ee ce tt uu hb hs ht hu het hee hce = omega (arith, ints)

power-raised : (c : ℤ) (xs : List ℤ) → length xs ≡ 80 → power (raised c xs) ≡ power xs
power-raised c xs long =
    let t : ℤ = total xs in
    let u : ℤ = total (raised c xs) in
    let e : ℤ = pos 80 *ℤ c in
    let sums : u ≡ t +ℤ e = subst (λ (n : ℕ). u ≡ t +ℤ pos n *ℤ c) long (total-raised c xs) in
    let all : pos (squares (raised c xs)) ≡ pos (squares xs) +ℤ (c *ℤ t +ℤ c *ℤ t) +ℤ pos 80 *ℤ (c *ℤ c) =
    subst (λ (n : ℕ). pos (squares (raised c xs)) ≡ pos (squares xs) +ℤ (c *ℤ t +ℤ c *ℤ t) +ℤ pos n *ℤ (c *ℤ c)) long
    (squares-raised c xs) in
    let square : u *ℤ u ≡ t *ℤ t +ℤ (e *ℤ t +ℤ e *ℤ t) +ℤ e *ℤ e = ap (λ (z : ℤ). z *ℤ z) sums ∙ square-of-sum t e in
    ap (λ (n : ℕ). n / 3200)
    (power-same (squares xs) (squares (raised c xs)) (unsigned_abs t * unsigned_abs t) (unsigned_abs u * unsigned_abs u)
    (c *ℤ t) (c *ℤ c) (e *ℤ t) (e *ℤ e) (c *ℤ e) (t *ℤ t) (u *ℤ u) all (square-is t) (square-is u) square
    (eighty c t) (eighty c e) (*ℤ_comm c e ∙ eighty c c))

-- what a whole window of a wave sums to
unfoldable sum_of : (ℕ → ℤ) → ℕ → ℕ → ℤ
sum_of wave i zero = pos 0
sum_of wave i (suc m) = wave i +ℤ sum_of wave (i + 1) m

correlated-more : (p q r a b z s : ℤ) → p ≡ q +ℤ r → b ≡ a +ℤ z → s ≡ r +ℤ z → p +ℤ b ≡ (q +ℤ a) +ℤ s
correlated-more p q r a b z s hp hb hs = omega (arith, ints)

correlated-raised : (wave : ℕ → ℤ) (c : ℤ) (i : ℕ) (xs : List ℤ)
    → correlated wave i (raised c xs) ≡ correlated wave i xs +ℤ c *ℤ sum_of wave i (length xs)
unfolding correlated sum_of
correlated-raised wave c i [] = omega (arith, ints)
correlated-raised wave c i (x ∷ xs) =
    let w : ℤ = wave i in
    let rest : ℤ = sum_of wave (i + 1) (length xs) in
    correlated-more ((x +ℤ c) *ℤ w) (x *ℤ w) (c *ℤ w) (correlated wave (i + 1) xs) (correlated wave (i + 1) (raised c xs))
    (c *ℤ rest) (c *ℤ (w +ℤ rest)) (distributes x c w) (correlated-raised wave c (i + 1) xs) (distributes-right c w rest)

module _ (c : ℤ) (xs : List ℤ) (long : length xs ≡ 80) where
  wave-raised : (wave : ℕ → ℤ) → sum_of wave 0 80 ≡ pos 0 → correlated wave 0 (raised c xs) ≡ correlated wave 0 xs
  wave-raised wave none =
      let nothing : sum_of wave 0 (length xs) ≡ pos 0 = ap (λ (n : ℕ). sum_of wave 0 n) long ∙ none in
      let zero-sum : correlated wave 0 xs +ℤ c *ℤ pos 0 ≡ correlated wave 0 xs = omega (arith, ints) in
      correlated-raised wave c 0 xs ∙ ap (λ (z : ℤ). correlated wave 0 xs +ℤ c *ℤ z) nothing ∙ zero-sum

  level-raised : (hz : ℕ) → sum_of (sine_of hz) 0 80 ≡ pos 0 → sum_of (cosine_of hz) 0 80 ≡ pos 0
      → level (raised c xs) hz ≡ level xs hz
  level-raised hz sine cosine =
      ap (λ (z : ℤ). part z ^ 2 + part (correlated (cosine_of hz) 0 (raised c xs)) ^ 2) (wave-raised (sine_of hz) sine)
      ∙ ap (λ (z : ℤ). part (correlated (sine_of hz) 0 xs) ^ 2 + part z ^ 2) (wave-raised (cosine_of hz) cosine)

  abbrev of_levels : ℕ → ℕ → ℕ → ℕ → ℕ → ℕ → ℕ → Levels
  of_levels l7 l9 l11 l13 l15 l17 p = record {
    hz700 = l7;
    hz900 = l9;
    hz1100 = l11;
    hz1300 = l13;
    hz1500 = l15;
    hz1700 = l17;
    power = p;
  }

  levels-raised : levels_of (raised c xs) ≡ levels_of xs
  unfolding sum_of sine_table
  levels-raised =
      let ys : List ℤ = raised c xs in
      ap (λ (k : ℕ). of_levels k (level ys 900) (level ys 1100) (level ys 1300) (level ys 1500) (level ys 1700) (power ys))
      (level-raised 700 refl refl)
      ∙ ap (λ (k : ℕ). of_levels (level xs 700) k (level ys 1100) (level ys 1300) (level ys 1500) (level ys 1700) (power ys))
      (level-raised 900 refl refl)
      ∙ ap (λ (k : ℕ). of_levels (level xs 700) (level xs 900) k (level ys 1300) (level ys 1500) (level ys 1700) (power ys))
      (level-raised 1100 refl refl)
      ∙ ap (λ (k : ℕ). of_levels (level xs 700) (level xs 900) (level xs 1100) k (level ys 1500) (level ys 1700) (power ys))
      (level-raised 1300 refl refl)
      ∙ ap (λ (k : ℕ). of_levels (level xs 700) (level xs 900) (level xs 1100) (level xs 1300) k (level ys 1700) (power ys))
      (level-raised 1500 refl refl)
      ∙ ap (λ (k : ℕ). of_levels (level xs 700) (level xs 900) (level xs 1100) (level xs 1300) (level xs 1500) k (power ys))
      (level-raised 1700 refl refl)
      ∙ ap (λ (k : ℕ). of_levels (level xs 700) (level xs 900) (level xs 1100) (level xs 1300) (level xs 1500) (level xs 1700) k)
      (power-raised c xs long)

module _ (c : ℤ) (samples : List ℤ) where
  abbrev all : List ℤ
  all = raised c samples

  window-raised : (w : ℕ) → window all w ≡ raised c (window samples w)
  window-raised w =
      ap (λ (zs : List ℤ). take 80 zs) (drop-map (λ (x : ℤ). x +ℤ c) (20 * w) samples)
      ∙ take-map (λ (x : ℤ). x +ℤ c) 80 (drop (20 * w) samples)

  levels-at : (w : ℕ) → w < windows_in (length samples) → levels_of (window all w) ≡ levels_of (window samples w)
  levels-at w below =
      let fits : 20 * w + 80 ≤ length samples = window-fits (length samples) w (omega (arith, below)) in
      let long : length (window samples w) ≡ 80 =
      omega (arith, length-take 80 (drop (20 * w) samples), length-drop (20 * w) samples, fits) in
      ap (λ (zs : List ℤ). levels_of zs) (window-raised w) ∙ levels-raised c (window samples w) long

  least-raised : (w : ℕ) → w ≤ windows_in (length samples) → least_before all w ≡ least_before samples w
  least-raised zero most = refl
  least-raised (suc w) most =
      ap (λ (ls : Levels). lessened (least_before all w) (beside ls)) (levels-at w (omega (arith, most)))
      ∙ ap (λ (least : ℕ). lessened least (beside (levels_of (window samples w)))) (least-raised w (omega (arith, most)))

  sight-raised : (w : ℕ) → w < windows_in (length samples) → sight_at all w ≡ sight_at samples w
  sight-raised w below =
      ap (λ (ls : Levels). first_pair (least_before all w) ls mf_pairs) (levels-at w below)
      ∙ ap (λ (least : ℕ). seen least (window samples w)) (least-raised w (omega (arith, below)))

  held-raised : (n : ℕ) → n < windows_in (length samples) + 64 → held all n ≡ held samples n
  held-raised n below = by (nat_lt n TAIL_WINDOWS) refl
    where
      by : (b : Bool) → nat_lt n TAIL_WINDOWS ≡ b
          → (if b then None else sight_at all (n - TAIL_WINDOWS)) ≡ (if b then None else sight_at samples (n - TAIL_WINDOWS))
      by true e = refl
      by false e =
          let past : 64 ≤ n = ltb-false _ _ e in
          sight-raised (n - TAIL_WINDOWS) (omega (arith, past, below))

  seen-raised : (w : ℕ) → w < windows_in (length samples) → seen_at all w ≡ seen_at samples w
  seen-raised w below =
      ap (λ (before : List (Option Sight)). without_tail before (sight_at all w))
      (map-agrees (held all) (held samples) w 64 (λ n less. held-raised n (omega (arith, less, below))))
      ∙ ap (λ (s : Option Sight). without_tail (held_before samples w) s) (sight-raised w below)

  sights-raised : sights all ≡ sights samples
  sights-raised =
      ap (λ (n : ℕ). map (seen_at all) (range_with_len 0 (windows_in n))) (length-map samples (λ (x : ℤ). x +ℤ c))
      ∙ map-agrees (seen_at all) (seen_at samples) 0 (windows_in (length samples))
      (λ w below. seen-raised w (omega (arith, below)))

-- the keys that windows make
abbrev keys_of_sights : List (Option Sight) → List Heard
keys_of_sights ss = image_on hearer ss ++ listed (fold hearer.next hearer.start ss).sounding

pub voltages_change_nothing : VoltagesChangeNothing
voltages_change_nothing voltage samples =
    ap (λ (ss : List (Option Sight)). keys_of_sights ss) (sights-raised voltage samples)
