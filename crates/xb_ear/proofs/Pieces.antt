-- How little a piece of a tone gives with a wave of another frequency.
use Rattle.std.proofs.Common.{◌≡◌, ◌∙◌, ℕ, zero, suc, ◌+◌, ◌-◌, ◌*◌, ◌/◌, ◌%◌, ◌<◌, ◌≤◌, Bool, true, List, [], ◌∷◌, ◌++◌, map, take, length, sym, ap, subst, arith, ℤ, pos, ◌+ℤ◌, ◌*ℤ◌, unsigned_abs}
use Rattle.std.specs.Prelude.{◌&&◌, nat_le}
use Rattle.std.specs.List.{list_all, range_with_len}
use Rattle.std.proofs.lemmas.Bool.{leb-true}
use Rattle.std.proofs.lemmas.Int.{ints}
use Rattle.std.proofs.lemmas.List.FromFn.{length-map-range_with_len, take-map-range_with_len}
use Rattle.std.proofs.lemmas.Nat.{div-add-mod', mod_below}
use Rattle.xb_model.specs.MfPairs.{pair}
use Rattle.xb_sound.specs.Sines.{pair_sample}
use Rattle.xb_sound.proofs.SineTables.{holds_below}
use Rattle.xb_ear.specs.Levels.{correlated, sine_of}
use Rattle.xb_ear.proofs.Bessel.{zeros-give}
use Rattle.xb_ear.proofs.Mixed.{correlated-mixed}
use Rattle.xb_ear.proofs.Places.{sine_of-turns}
use Rattle.xb_ear.proofs.Shown.{still, turned}
use Rattle.xb_ear.proofs.Standing.{and-both}
use Rattle.xb_ear.proofs.Products.{sum-is}

-- no sum from the first sample on is greater
abbrev pub stays_within : ℕ → (ℕ → ℤ) → ℤ → ℕ → List ℤ → Bool
stays_within k wave sum i [] = nat_le (unsigned_abs sum) k
stays_within k wave sum i (x ∷ xs) =
    nat_le (unsigned_abs sum) k && stays_within k wave (sum +ℤ x *ℤ wave i) (i + 1) xs

within-first : (k : ℕ) (wave : ℕ → ℤ) (sum : ℤ) (i : ℕ) (xs : List ℤ) → stays_within k wave sum i xs ≡ true
    → unsigned_abs sum ≤ k
within-first k wave sum i [] all = leb-true _ _ all
within-first k wave sum i (x ∷ xs) all = leb-true _ _ (and-both _ _ all).0

no-more : (k : ℕ) (sum : ℤ) → unsigned_abs sum ≤ k → unsigned_abs (sum +ℤ pos 0) ≤ k
no-more k sum few = omega (arith, ints, few)

one-more : (k : ℕ) (sum p c : ℤ) → unsigned_abs ((sum +ℤ p) +ℤ c) ≤ k → unsigned_abs (sum +ℤ (p +ℤ c)) ≤ k
one-more k sum p c few = omega (arith, ints, few)

within-take : (k : ℕ) (wave : ℕ → ℤ) (sum : ℤ) (i : ℕ) (xs : List ℤ) (m : ℕ) → stays_within k wave sum i xs ≡ true
    → unsigned_abs (sum +ℤ correlated wave i (take m xs)) ≤ k
unfolding correlated
within-take k wave sum i xs zero all = no-more k sum (within-first k wave sum i xs all)
within-take k wave sum i [] (suc m) all = no-more k sum (within-first k wave sum i [] all)
within-take k wave sum i (x ∷ xs) (suc m) all =
    one-more k sum (x *ℤ wave i) (correlated wave (i + 1) (take m xs))
    (within-take k wave (sum +ℤ x *ℤ wave i) (i + 1) xs m (and-both _ _ all).1)

-- the greatest sum of a tone of amplitude 10,000 with a wave
abbrev pub MOST_OF_TONE : ℕ
MOST_OF_TONE = 440000000

abbrev pub ends_low : (ℕ → ℤ) → ℕ → ℕ → Bool
ends_low wave hz n = stays_within MOST_OF_TONE wave (pos 0) 0 (map (λ k. sine_of hz k) (range_with_len n 80))

abbrev pub begins_low : (ℕ → ℤ) → ℕ → ℕ → Bool
begins_low wave hz i =
    nat_le (unsigned_abs (correlated wave i (map (λ k. sine_of hz k) (range_with_len 0 (80 - i))))) MOST_OF_TONE

-- a tone that ends or begins within 80 samples gives little, wherever it does
abbrev pub is_low_with : (ℕ → ℤ) → ℕ → Bool
is_low_with wave hz =
    list_all (ends_low wave hz) (range_with_len 0 80) && list_all (begins_low wave hz) (range_with_len 0 81)

module _ (wave : ℕ → ℤ) (h : ℕ) (low : is_low_with wave (h * 100) ≡ true) where
  nothing-first : (x : ℤ) (k : ℕ) → unsigned_abs (pos 0 +ℤ x) ≤ k → unsigned_abs x ≤ k
  nothing-first x k few = omega (arith, ints, few)

  pub end-low : (n m : ℕ) → m ≤ 80
      → unsigned_abs (correlated wave 0 (map (λ k. sine_of (h * 100) k) (range_with_len n m))) ≤ MOST_OF_TONE
  end-low n m short =
      let f : ℕ → ℤ = λ k. sine_of (h * 100) k in
      let r : ℕ = n % 80 in
      let rest : r < 80 = mod_below n 80 (omega arith) in
      let whole : n ≡ n / 80 * 80 + r = sym (div-add-mod' n 80) in
      let both = and-both (list_all (ends_low wave (h * 100)) (range_with_len 0 80)) (list_all (begins_low wave (h * 100)) (range_with_len 0 81)) low in
      let at : ends_low wave (h * 100) r ≡ true =
      holds_below (ends_low wave (h * 100)) 80 0 both.0 r (omega arith) (omega (arith, rest)) in
      let few = within-take MOST_OF_TONE wave (pos 0) 0 (map f (range_with_len r 80)) m at in
      let cut : take m (map f (range_with_len r 80)) ≡ map f (range_with_len n m) =
      take-map-range_with_len f r 80 m short ∙ sym (turned f (sine_of-turns h) m n (n / 80) r whole) in
      subst (λ (xs : List ℤ). unsigned_abs (correlated wave 0 xs) ≤ MOST_OF_TONE) cut
      (nothing-first (correlated wave 0 (take m (map f (range_with_len r 80)))) MOST_OF_TONE few)

  pub begin-low : (i : ℕ) → i ≤ 80
      → unsigned_abs (correlated wave i (map (λ k. sine_of (h * 100) k) (range_with_len 0 (80 - i)))) ≤ MOST_OF_TONE
  begin-low i short =
      let both = and-both (list_all (ends_low wave (h * 100)) (range_with_len 0 80)) (list_all (begins_low wave (h * 100)) (range_with_len 0 81)) low in
      leb-true _ _ (holds_below (begins_low wave (h * 100)) 81 0 both.1 i (omega arith) (omega (arith, short)))

-- sums over one list after another
first-none : (x : ℤ) → x ≡ pos 0 +ℤ x
first-none x = omega (arith, ints)

then-more : (p x y z : ℤ) → x ≡ y +ℤ z → p +ℤ x ≡ (p +ℤ y) +ℤ z
then-more p x y z is = omega (arith, ints, is)

pub correlated-append : (wave : ℕ → ℤ) (i j : ℕ) (xs ys : List ℤ) → j ≡ i + length xs
    → correlated wave i (xs ++ ys) ≡ correlated wave i xs +ℤ correlated wave j ys
unfolding correlated
correlated-append wave i j [] ys at =
    let same : i ≡ j = omega (arith, at) in
    ap (λ (k : ℕ). correlated wave k ys) same ∙ first-none (correlated wave j ys)
correlated-append wave i j (x ∷ xs) ys at =
    then-more (x *ℤ wave i) (correlated wave (i + 1) (xs ++ ys)) (correlated wave (i + 1) xs) (correlated wave j ys)
    (correlated-append wave (i + 1) j xs ys (omega (arith, at)))

-- two tones, with silence before or after
module _ (wave : ℕ → ℤ) (a b : ℕ) (low : is_low_with wave (a * 100) ≡ true) (high : is_low_with wave (b * 100) ≡ true) where
  abbrev tone : ℕ → ℤ
  tone k = pair_sample (pair (a * 100) (b * 100)) k

  both-tones : (i n m : ℕ) → correlated wave i (map tone (range_with_len n m))
      ≡ correlated wave i (map (λ k. sine_of (a * 100) k) (range_with_len n m))
      +ℤ correlated wave i (map (λ k. sine_of (b * 100) k) (range_with_len n m))
  both-tones i n m =
      let f : ℕ → ℤ = λ k. sine_of (a * 100) k in
      let g : ℕ → ℤ = λ k. sine_of (b * 100) k in
      ap (λ (xs : List ℤ). correlated wave i xs) (sum-is f g n m)
      ∙ correlated-mixed wave i (map f (range_with_len n m)) (map g (range_with_len n m))
      (length-map-range_with_len {X = ℤ} g n m ∙ sym (length-map-range_with_len {X = ℤ} f n m))

  sum-low : (x y z : ℤ) → z ≡ x +ℤ y → unsigned_abs x ≤ MOST_OF_TONE → unsigned_abs y ≤ MOST_OF_TONE
      → unsigned_abs z ≤ 2 * MOST_OF_TONE
  sum-low x y z is first second = omega (arith, ints, is, first, second)

  pub tone-ends : (n m r : ℕ) → m ≤ 80
      → unsigned_abs (correlated wave 0 (map tone (range_with_len n m) ++ map still (range_with_len 0 r))) ≤ 2 * MOST_OF_TONE
  tone-ends n m r short =
      let f : ℕ → ℤ = λ k. sine_of (a * 100) k in
      let g : ℕ → ℤ = λ k. sine_of (b * 100) k in
      let xs : List ℤ = map tone (range_with_len n m) in
      let x : ℤ = correlated wave 0 (map f (range_with_len n m)) in
      let y : ℤ = correlated wave 0 (map g (range_with_len n m)) in
      let at : length xs ≡ 0 + length xs = omega arith in
      let parts = correlated-append wave 0 (length xs) xs (map still (range_with_len 0 r)) at in
      let none : correlated wave (length xs) (map still (range_with_len 0 r)) ≡ pos 0 = zeros-give wave (length xs) 0 r in
      let tones : correlated wave 0 xs ≡ x +ℤ y = both-tones 0 n m in
      let is : correlated wave 0 (xs ++ map still (range_with_len 0 r)) ≡ x +ℤ y = omega (arith, ints, parts, none, tones) in
      sum-low x y (correlated wave 0 (xs ++ map still (range_with_len 0 r))) is (end-low wave a low n m short) (end-low wave b high n m short)

  pub tone-begins : (i : ℕ) → i ≤ 80
      → unsigned_abs (correlated wave 0 (map still (range_with_len 0 i) ++ map tone (range_with_len 0 (80 - i)))) ≤ 2 * MOST_OF_TONE
  tone-begins i short =
      let f : ℕ → ℤ = λ k. sine_of (a * 100) k in
      let g : ℕ → ℤ = λ k. sine_of (b * 100) k in
      let m : ℕ = 80 - i in
      let xs : List ℤ = map still (range_with_len 0 i) in
      let x : ℤ = correlated wave i (map f (range_with_len 0 m)) in
      let y : ℤ = correlated wave i (map g (range_with_len 0 m)) in
      let at : i ≡ 0 + length xs = omega (arith, length-map-range_with_len {X = ℤ} still 0 i) in
      let parts = correlated-append wave 0 i xs (map tone (range_with_len 0 m)) at in
      let none : correlated wave 0 xs ≡ pos 0 = zeros-give wave 0 0 i in
      let tones : correlated wave i (map tone (range_with_len 0 m)) ≡ x +ℤ y = both-tones i 0 m in
      let is : correlated wave 0 (xs ++ map tone (range_with_len 0 m)) ≡ x +ℤ y = omega (arith, ints, parts, none, tones) in
      sum-low x y (correlated wave 0 (xs ++ map tone (range_with_len 0 m))) is (begin-low wave a low i short) (begin-low wave b high i short)
