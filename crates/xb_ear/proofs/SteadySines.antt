-- A steady sine of 100, 200, 300 or 2,600 Hz lies beside the six frequencies.
use Rattle.std.proofs.Common.{◌≡◌, ◌∙◌, ℕ, ◌+◌, ◌-◌, ◌*◌, ◌/◌, ◌%◌, ◌^◌, ◌<◌, ◌≤◌, Bool, true, List, [], ◌∷◌, map, take, drop, length, sym, ap, subst, arith, refl, ℤ, pos, ◌+ℤ◌, ◌-ℤ◌, ◌*ℤ◌, unsigned_abs, inl, inr, length-drop, length-take}
use Rattle.std.proofs.Math.Nat.{add-mul-mod_self_right}
use Rattle.std.specs.Prelude.{◌&&◌, nat_le}
use Rattle.std.specs.List.{list_all, range_with_len}
use Rattle.std.proofs.lemmas.Bool.{cases_lt, leb-true}
use Rattle.std.proofs.lemmas.Int.{ints, unsigned_abs-mul}
use Rattle.std.proofs.lemmas.List.{length-map}
use Rattle.std.proofs.lemmas.List.FromFn.{length-map-range_with_len, take-map-range_with_len}
use Rattle.std.proofs.lemmas.Nat.{div-add-mod', mod_below, mul-le}
use Rattle.xb_sound.specs.Sines.{sine_at, sine_table}
use Rattle.xb_sound.proofs.SineTables.{holds_below}
use Rattle.xb_ear.specs.Beside.{HoldsLittleOf, IsBeside, IsBorne, IsSineOf, LiesBeside, SteadySinesAreBorne, mixed, wave_from}
use Rattle.xb_ear.specs.Disturbed.{IsNear}
use Rattle.xb_ear.specs.Ears.{window, windows_in}
use Rattle.xb_ear.specs.Levels.{correlated, cosine_of, sine_of, squares}
use Rattle.xb_ear.proofs.Mixed.{correlated-agrees, correlated-mixed, squares-mixed, two-squares}
use Rattle.xb_ear.proofs.MixedKeys.{beside_is_borne}
use Rattle.xb_ear.proofs.Near.{far_squares, near-correlated, near-drop, near-length, near-squares, near-take, reach}
use Rattle.xb_ear.proofs.Places.{cosine_of-turns, sine_of-turns}
use Rattle.xb_ear.proofs.Scaled.{scaled, scaled-drop, scaled-take, size-scaled}
use Rattle.xb_sound.proofs.ClearKeys.{drops}
use Rattle.xb_ear.proofs.Shown.{turned}
use Rattle.xb_ear.proofs.Standing.{and-both}
use Rattle.xb_ear.proofs.Products.{correlated-louder, correlated-times, nothing-between, nothing-times, squares-times, sum-is, times, times-is}

-- the squares of samples that may each be greater by 30,000
far-step : (x : ℕ) → 10000 * ((x + 30000) * (x + 30000)) ≤ 10001 * (x * x) + (9 * (10 ^ 16 + 10 ^ 12))
far-step x =
    let e = two-squares x 300000000 in
    omega (arith, e)

far-most : (xs : List ℤ) → 10000 * far_squares 30000 xs ≤ 10001 * squares xs + length xs * (9 * (10 ^ 16 + 10 ^ 12))
unfolding far_squares squares
far-most [] = omega arith
far-most (x ∷ xs) =
    let here = far-step (unsigned_abs x) in
    let later = far-most xs in
    omega (arith, here, later)

-- an amplitude is no greater than both together
amplitude-most : (amplitude x y : ℕ) → x * x + y * y ≤ amplitude * amplitude → x ≤ amplitude
amplitude-most amplitude x y few = elim (cases_lt amplitude x) [
  | inr small ↦ small
  | inl great ↦
      let big = mul-le (amplitude + 1) (amplitude + 1) x x (omega (arith, great)) (omega (arith, great)) in
      absurd (omega (arith, big, few))
]

-- what a wave that is compared with two sines of amplitude 10,000 gives
abbrev is_little : ℕ → ℕ → ℕ → ℕ → Bool
is_little hz from six place =
    nat_le (unsigned_abs (correlated (wave_from place six) 0 (map (λ n. sine_of hz n) (range_with_len from 80)))
    + unsigned_abs (correlated (wave_from place six) 0 (map (λ n. cosine_of hz n) (range_with_len from 80)))) 230000

abbrev all_little : ℕ → ℕ → Bool
all_little hz six = list_all (λ j. list_all (is_little hz (20 * j) six) (range_with_len 0 80)) (range_with_len 0 4)

abbrev all_reach : ℕ → Bool
all_reach six = list_all (λ place. nat_le (reach (wave_from place six) 0 80) 520000) (range_with_len 0 80)

-- rounding adds no more power than lies between two amplitudes
abbrev pub IsEnough : ℕ → ℕ → Type 0
IsEnough amplitude limit =
    10001 * (4000100000 * (amplitude * amplitude)) + 80 * (9 * (10 ^ 16 + 10 ^ 12)) ≤ 10 ^ 12 * (40 * (limit * limit))

-- 80 samples of a steady sine, from sample 20 j on
module _ (hz amplitude : ℕ) (most : amplitude ≤ 12767) (a b : ℤ)
    (loud : unsigned_abs a * unsigned_abs a + unsigned_abs b * unsigned_abs b ≤ amplitude * amplitude) (j : ℕ) (fourth : j < 4) (ds : List ℤ) (long : length ds ≡ 80) where
  abbrev from : ℕ
  from = 20 * j

  abbrev pub sines : List ℤ
  sines = map (λ n. sine_of hz n) (range_with_len from 80)

  abbrev pub cosines : List ℤ
  cosines = map (λ n. cosine_of hz n) (range_with_len from 80)

  abbrev pub steady : List ℤ
  steady = mixed (times a sines) (times b cosines)

  both-long : length (times b cosines) ≡ length (times a sines)
  both-long =
      length-map cosines (λ x. b *ℤ x) ∙ length-map-range_with_len {X = ℤ} (λ n. cosine_of hz n) from 80
      ∙ sym (length-map sines (λ x. a *ℤ x) ∙ length-map-range_with_len {X = ℤ} (λ n. sine_of hz n) from 80)

  -- what a wave gives of both
  pub both-waves : (wave : ℕ → ℤ)
      → correlated wave 0 steady ≡ a *ℤ correlated wave 0 sines +ℤ b *ℤ correlated wave 0 cosines
  both-waves wave =
      correlated-mixed wave 0 (times a sines) (times b cosines) both-long
      ∙ ap (λ (z : ℤ). z +ℤ correlated wave 0 (times b cosines)) (correlated-times wave a 0 sines)
      ∙ ap (λ (z : ℤ). a *ℤ correlated wave 0 sines +ℤ z) (correlated-times wave b 0 cosines)

  both-few : (wave : ℕ → ℤ)
      → unsigned_abs (correlated wave 0 sines) + unsigned_abs (correlated wave 0 cosines) ≤ 230000
      → unsigned_abs (correlated wave 0 steady) ≤ 12767 * 230000
  both-few wave few =
      let s : ℤ = correlated wave 0 sines in
      let c : ℤ = correlated wave 0 cosines in
      let x : ℕ = unsigned_abs a in
      let y : ℕ = unsigned_abs b in
      let sum : correlated wave 0 steady ≡ a *ℤ s +ℤ b *ℤ c = both-waves wave in
      let first : unsigned_abs (a *ℤ s) ≡ x * unsigned_abs s = unsigned_abs-mul a s in
      let second : unsigned_abs (b *ℤ c) ≡ y * unsigned_abs c = unsigned_abs-mul b c in
      let most1 = mul-le x (unsigned_abs s) 12767 (unsigned_abs s) (omega (arith, most, amplitude-most amplitude x y loud)) (omega arith) in
      let most2 = mul-le y (unsigned_abs c) 12767 (unsigned_abs c) (omega (arith, most, amplitude-most amplitude y x (omega (arith, loud)))) (omega arith) in
      let sizes : unsigned_abs (correlated wave 0 steady) ≤ unsigned_abs (a *ℤ s) + unsigned_abs (b *ℤ c) =
      omega (arith, ints, sum) in
      omega (arith, sizes, first, second, most1, most2, few)

  module _ (near : IsNear 30000 steady (scaled 10000 ds)) (tone : ℕ)
      (little : list_all (is_little hz from tone) (range_with_len 0 80) ≡ true) (reaches : all_reach tone ≡ true) where
    steady-long : length steady ≡ 80
    steady-long = near-length 30000 steady (scaled 10000 ds) near ∙ length-map ds (λ x. pos 10000 *ℤ x) ∙ long

    little-at : (place : ℕ) → place < 80 → unsigned_abs (correlated (wave_from place tone) 0 ds) ≤ 1900000
    little-at place below =
        let w : ℕ → ℤ = wave_from place tone in
        let few = both-few w (leb-true _ _ (holds_below (is_little hz from tone) 80 0 little place (omega arith) (omega (arith, below)))) in
        let far : reach w 0 80 ≤ 520000 =
        leb-true _ _ (holds_below (λ place. nat_le (reach (wave_from place tone) 0 80) 520000) 80 0 reaches place (omega arith) (omega (arith, below))) in
        let apart : unsigned_abs (correlated w 0 (scaled 10000 ds) -ℤ correlated w 0 steady) ≤ 30000 * reach w 0 80 =
        subst (λ (k : ℕ). unsigned_abs (correlated w 0 (scaled 10000 ds) -ℤ correlated w 0 steady) ≤ 30000 * reach w 0 k)
        steady-long (near-correlated 30000 w 0 steady (scaled 10000 ds) near) in
        let all : unsigned_abs (correlated w 0 (scaled 10000 ds)) ≡ 10000 * unsigned_abs (correlated w 0 ds) = size-scaled w 10000 0 ds in
        let sizes : unsigned_abs (correlated w 0 (scaled 10000 ds))
        ≤ unsigned_abs (correlated w 0 steady) + 30000 * reach w 0 80 = omega (arith, ints, apart) in
        omega (arith, all, sizes, few, far)

    holds-little : HoldsLittleOf tone ds
    holds-little place =
        let r : ℕ = place % 80 in
        let below : r < 80 = mod_below place 80 (omega arith) in
        let whole : place ≡ r + place / 80 * 80 = omega (arith, div-add-mod' place 80) in
        subst (λ (z : ℤ). unsigned_abs z ≤ 1900000)
        (correlated-agrees (wave_from r tone) (wave_from place tone)
        (λ k.
        let sum : tone * k / 100 + (r + place / 80 * 80) ≡ tone * k / 100 + r + place / 80 * 80 = omega arith in
        sym (ap (λ (m : ℕ). sine_at ((tone * k / 100 + m) % 80)) whole ∙ ap (λ (m : ℕ). sine_at (m % 80)) sum
        ∙ ap (λ (m : ℕ). sine_at m) (add-mul-mod_self_right (tone * k / 100 + r) (place / 80) 80))) 0 ds)
        (little-at r below)

  -- how much power they have
  steady-power : squares sines ≤ 4000100000 → squares cosines ≤ 4000100000
      → correlated (λ k. sine_of hz (from + k)) 0 cosines ≡ pos 0
      → squares steady ≤ 4000100000 * (amplitude * amplitude)
  steady-power first second none =
      let x : ℕ = unsigned_abs a in
      let y : ℕ = unsigned_abs b in
      let f : ℕ → ℤ = λ n. a *ℤ sine_of hz n in
      let start : from ≡ from + 0 = omega arith in
      let is : times a sines ≡ map f (range_with_len from 80) = sym (times-is (λ n. sine_of hz n) a from 80) in
      let count : length (times b cosines) ≡ 80 =
      length-map cosines (λ x. b *ℤ x) ∙ length-map-range_with_len {X = ℤ} (λ n. cosine_of hz n) from 80 in
      let cross : correlated (λ k. f (from + k)) 0 (times b cosines) ≡ pos 0 =
      correlated-louder (λ k. sine_of hz (from + k)) a 0 (times b cosines)
      ∙ ap (λ (z : ℤ). a *ℤ z) (correlated-times (λ k. sine_of hz (from + k)) b 0 cosines
      ∙ ap (λ (z : ℤ). b *ℤ z) none ∙ sym (nothing-times b))
      ∙ sym (nothing-times a) in
      let all : pos (squares steady) ≡ pos (squares (times a sines)) +ℤ pos (squares (times b cosines)) =
      ap (λ (xs : List ℤ). pos (squares (mixed xs (times b cosines)))) is
      ∙ squares-mixed f from 0 from 80 (times b cosines) start count
      ∙ ap (λ (z : ℤ). pos (squares (map f (range_with_len from 80))) +ℤ (z +ℤ z) +ℤ pos (squares (times b cosines))) cross
      ∙ nothing-between (pos (squares (map f (range_with_len from 80)))) (pos (squares (times b cosines)))
      ∙ ap (λ (xs : List ℤ). pos (squares xs) +ℤ pos (squares (times b cosines))) (sym is) in
      let loud1 = squares-times a sines in
      let loud2 = squares-times b cosines in
      let most1 = mul-le (x * x) (squares sines) (x * x) 4000100000 (omega arith) first in
      let most2 = mul-le (y * y) (squares cosines) (y * y) 4000100000 (omega arith) second in
      let sum : squares steady ≡ squares (times a sines) + squares (times b cosines) = omega (arith, ints, all) in
      let whole = mul-le (x * x + y * y) 4000100000 (amplitude * amplitude) 4000100000 loud (omega arith) in
      omega (arith, sum, loud1, loud2, most1, most2, whole)

  samples-power : (limit : ℕ) → IsEnough amplitude limit → IsNear 30000 steady (scaled 10000 ds)
      → squares steady ≤ 4000100000 * (amplitude * amplitude) → squares ds ≤ 40 * (limit * limit)
  samples-power limit enough near few =
      let n : length steady ≡ 80 =
      near-length 30000 steady (scaled 10000 ds) near ∙ length-map ds (λ x. pos 10000 *ℤ x) ∙ long in
      let far = near-squares 30000 steady (scaled 10000 ds) near in
      let whole = far-most steady in
      let all : squares (scaled 10000 ds) ≡ 10000 * 10000 * squares ds = squares-times (pos 10000) ds in
      let same : length steady * (9 * (10 ^ 16 + 10 ^ 12)) ≡ 80 * (9 * (10 ^ 16 + 10 ^ 12)) = ap (λ (k : ℕ). k * (9 * (10 ^ 16 + 10 ^ 12))) n in
      omega (arith, far, whole, all, same, few, enough)

-- what holds of a frequency at each quarter of 80 samples
abbrev is_even : ℕ → ℕ → Bool
is_even hz j =
    nat_le (squares (map (λ n. sine_of hz n) (range_with_len (20 * j) 80))) 4000100000
    && nat_le (squares (map (λ n. cosine_of hz n) (range_with_len (20 * j) 80))) 4000100000
    && nat_le (unsigned_abs (correlated (λ k. sine_of hz (20 * j + k)) 0 (map (λ n. cosine_of hz n) (range_with_len (20 * j) 80)))) 0

pub record IsLittle (hz : ℕ) : Type 0 where
  pub l700 : all_little hz 700 ≡ true
  pub l900 : all_little hz 900 ≡ true
  pub l1100 : all_little hz 1100 ≡ true
  pub l1300 : all_little hz 1300 ≡ true
  pub l1500 : all_little hz 1500 ≡ true
  pub l1700 : all_little hz 1700 ≡ true
  pub even : list_all (is_even hz) (range_with_len 0 4) ≡ true

reach-of-700 : all_reach 700 ≡ true
unfolding reach sine_table
reach-of-700 = refl

reach-of-900 : all_reach 900 ≡ true
unfolding reach sine_table
reach-of-900 = refl

reach-of-1100 : all_reach 1100 ≡ true
unfolding reach sine_table
reach-of-1100 = refl

reach-of-1300 : all_reach 1300 ≡ true
unfolding reach sine_table
reach-of-1300 = refl

reach-of-1500 : all_reach 1500 ≡ true
unfolding reach sine_table
reach-of-1500 = refl

reach-of-1700 : all_reach 1700 ≡ true
unfolding reach sine_table
reach-of-1700 = refl

module _ (h amplitude limit : ℕ) (is : IsLittle (h * 100)) (most : amplitude ≤ 12767) (enough : IsEnough amplitude limit)
    (a b : ℤ) (loud : unsigned_abs a * unsigned_abs a + unsigned_abs b * unsigned_abs b ≤ amplitude * amplitude) where
  abbrev hz : ℕ
  hz = h * 100

  abbrev pub wave : ℕ → ℤ
  wave n = a *ℤ sine_of hz n +ℤ b *ℤ cosine_of hz n

  wave-turns : (turns n : ℕ) → wave (turns * 80 + n) ≡ wave n
  wave-turns turns n =
      ap (λ (x : ℤ). a *ℤ x +ℤ b *ℤ cosine_of hz (turns * 80 + n)) (sine_of-turns h turns n)
      ∙ ap (λ (x : ℤ). a *ℤ sine_of hz n +ℤ b *ℤ x) (cosine_of-turns h turns n)

  pub is-steady : (from : ℕ) → map wave (range_with_len from 80)
      ≡ mixed (times a (map (λ n. sine_of hz n) (range_with_len from 80))) (times b (map (λ n. cosine_of hz n) (range_with_len from 80)))
  is-steady from =
      sum-is (λ n. a *ℤ sine_of hz n) (λ n. b *ℤ cosine_of hz n) from 80
      ∙ ap (λ (xs : List ℤ). mixed xs (map (λ n. b *ℤ cosine_of hz n) (range_with_len from 80)))
      (times-is (λ n. sine_of hz n) a from 80)
      ∙ ap (λ (xs : List ℤ). mixed (times a (map (λ n. sine_of hz n) (range_with_len from 80))) xs)
      (times-is (λ n. cosine_of hz n) b from 80)

  -- 80 samples that are near the wave lie beside the six
  piece-beside : (j : ℕ) → j < 4 → (ds : List ℤ) → length ds ≡ 80
      → IsNear 30000 (map wave (range_with_len (20 * j) 80)) (scaled 10000 ds) → IsBeside limit ds
  piece-beside j fourth ds long close =
      let near = subst (λ (xs : List ℤ). IsNear 30000 xs (scaled 10000 ds)) (is-steady (20 * j)) close in
      let at : (tone : ℕ) → all_little hz tone ≡ true → list_all (is_little hz (20 * j) tone) (range_with_len 0 80) ≡ true =
      λ tone all. holds_below (λ j. list_all (is_little hz (20 * j) tone) (range_with_len 0 80)) 4 0 all j (omega arith) (omega (arith, fourth)) in
      let even = holds_below (is_even hz) 4 0 is.even j (omega arith) (omega (arith, fourth)) in
      let last = and-both _ _ even in
      let first = and-both _ _ last.0 in
      let cross : unsigned_abs (correlated (λ k. sine_of hz (20 * j + k)) 0 (map (λ n. cosine_of hz n) (range_with_len (20 * j) 80))) ≤ 0 =
      leb-true _ _ last.1 in
      record {
        of700 = holds-little hz amplitude most a b loud j fourth ds long near 700 (at 700 is.l700) reach-of-700;
        of900 = holds-little hz amplitude most a b loud j fourth ds long near 900 (at 900 is.l900) reach-of-900;
        of1100 = holds-little hz amplitude most a b loud j fourth ds long near 1100 (at 1100 is.l1100) reach-of-1100;
        of1300 = holds-little hz amplitude most a b loud j fourth ds long near 1300 (at 1300 is.l1300) reach-of-1300;
        of1500 = holds-little hz amplitude most a b loud j fourth ds long near 1500 (at 1500 is.l1500) reach-of-1500;
        of1700 = holds-little hz amplitude most a b loud j fourth ds long near 1700 (at 1700 is.l1700) reach-of-1700;
        power =
            samples-power hz amplitude most a b loud j fourth ds long limit enough near
            (steady-power hz amplitude most a b loud j fourth ds long (leb-true _ _ first.0) (leb-true _ _ first.1) (omega (arith, ints, cross)));
      }

  -- each window of it is near the wave
  pub window-near : (samples : List ℤ) → IsSineOf hz a b samples → (w : ℕ) → w < windows_in (length samples)
      → (length (window samples w) ≡ 80) × IsNear 30000 (map wave (range_with_len (20 * (w % 4)) 80)) (scaled 10000 (window samples w))
  window-near samples sine w below =
      let m : ℕ = length samples in
      let n : ℕ = 20 * w in
      let fits : n + 80 ≤ m = omega (arith, below) in
      let start : n ≡ 0 + n = omega arith in
      let covers : m ≡ n + (m - n) = omega (arith, fits) in
      let cut : take 80 (drop n (map wave (range_with_len 0 m))) ≡ map wave (range_with_len n 80) =
      ap (λ (xs : List ℤ). take 80 xs) (drops wave n 0 m n (m - n) start covers)
      ∙ take-map-range_with_len wave n (m - n) 80 (omega (arith, fits)) in
      let j : ℕ = w % 4 in
      let whole : n ≡ w / 4 * 80 + 20 * j = omega (arith, div-add-mod' w 4) in
      let turn : map wave (range_with_len n 80) ≡ map wave (range_with_len (20 * j) 80) =
      turned wave wave-turns 80 n (w / 4) (20 * j) whole in
      let piece : List ℤ = window samples w in
      let ours : take 80 (drop n (scaled 10000 samples)) ≡ scaled 10000 piece =
      ap (λ (xs : List ℤ). take 80 xs) (scaled-drop 10000 n samples) ∙ scaled-take 10000 80 (drop n samples) in
      let near = near-take 30000 80 (drop n (map wave (range_with_len 0 m))) (drop n (scaled 10000 samples))
      (near-drop 30000 n (map wave (range_with_len 0 m)) (scaled 10000 samples) sine) in
      let long : length piece ≡ 80 = omega (arith, length-take 80 (drop n samples), length-drop n samples, fits) in (
        long,
        (subst (λ (ys : List ℤ). IsNear 30000 (map wave (range_with_len (20 * j) 80)) ys) ours
            (subst (λ (xs : List ℤ). IsNear 30000 xs (take 80 (drop n (scaled 10000 samples)))) (cut ∙ turn) near)),
      )

  pub sine-beside : (samples : List ℤ) → IsSineOf hz a b samples → LiesBeside limit samples
  sine-beside samples sine w below =
      let piece = window-near samples sine w below in
      piece-beside (w % 4) (mod_below w 4 (omega arith)) (window samples w) piece.0 piece.1

is-borne : (h : ℕ) → IsLittle (h * 100) → IsBorne (h * 100)
is-borne h is = record {
  clean = λ cadence marks a b sine samples lawful keyed long loud same near.
      let enough : IsEnough 11500 11510 = leb-true _ _ refl in
      let lies = sine-beside h 11500 11510 is (omega arith) enough a b loud sine same in
      beside_is_borne.clean cadence marks sine samples lawful keyed long lies near;
  noisy = λ cadence marks a b sine samples lawful keyed long loud same near.
      let enough : IsEnough 11000 11010 = leb-true _ _ refl in
      let lies = sine-beside h 11000 11010 is (omega arith) enough a b loud sine same in
      beside_is_borne.noisy cadence marks sine samples lawful keyed long lies near;
}

pub little-100 : IsLittle 100
unfolding correlated squares sine_table
little-100 = record { l700 = refl; l900 = refl; l1100 = refl; l1300 = refl; l1500 = refl; l1700 = refl; even = refl }

pub little-200 : IsLittle 200
unfolding correlated squares sine_table
little-200 = record { l700 = refl; l900 = refl; l1100 = refl; l1300 = refl; l1500 = refl; l1700 = refl; even = refl }

pub little-300 : IsLittle 300
unfolding correlated squares sine_table
little-300 = record { l700 = refl; l900 = refl; l1100 = refl; l1300 = refl; l1500 = refl; l1700 = refl; even = refl }

pub little-2600 : IsLittle 2600
unfolding correlated squares sine_table
little-2600 = record { l700 = refl; l900 = refl; l1100 = refl; l1300 = refl; l1500 = refl; l1700 = refl; even = refl }

pub steady_sines_are_borne : SteadySinesAreBorne
steady_sines_are_borne = record {
  of100 = is-borne 1 little-100;
  of200 = is-borne 2 little-200;
  of300 = is-borne 3 little-300;
  of2600 = is-borne 26 little-2600;
}
