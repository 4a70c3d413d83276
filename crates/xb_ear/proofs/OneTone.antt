-- Of a single tone nothing is heard.
use Rattle.std.proofs.Common.{◌≡◌, ◌∙◌, ℕ, ◌+◌, ◌-◌, ◌*◌, ◌/◌, ◌%◌, ◌<◌, ◌≤◌, ◌^◌, Bool, true, List, [], map, take, drop, length, sym, ap, subst, arith, refl, ℤ, pos, ◌-ℤ◌, ◌*ℤ◌, unsigned_abs, Option, None, inl}
use Rattle.std.specs.List.{list_all, range_with_len}
use Rattle.std.proofs.lemmas.Int.{ints}
use Rattle.std.proofs.lemmas.List.{length-map}
use Rattle.std.proofs.lemmas.List.FromFn.{length-map-range_with_len, take-map-range_with_len}
use Rattle.std.proofs.lemmas.Nat.{div-add-mod', mod_below, mul-le}
use Rattle.std.proofs.lemmas.Simd.{map-map}
use Rattle.xb_ear.specs.LongRuns.{label}
use Rattle.xb_ear.proofs.Places.{sine_of-turns}
use Rattle.xb_sound.proofs.SineTables.{holds_below}
use Rattle.xb_ear.specs.declared.levels.Levels.{Levels}
use Rattle.xb_ear.specs.declared.sight.Sight.{Sight}
use Rattle.xb_ear.specs.Disturbed.{IsNear}
use Rattle.xb_ear.specs.Ears.{least_before, windows_in}
use Rattle.xb_ear.specs.Hearings.{silent}
use Rattle.xb_ear.specs.Levels.{correlated, cosine_of, level, levels_of, part, sine_of, squares}
use Rattle.xb_ear.specs.Pairs.{mf_pairs, seen}
use Rattle.xb_ear.specs.Receivers.{keys_of_sound}
use Rattle.xb_ear.specs.SingleTones.{IsToneOf}
use Rattle.xb_ear.proofs.Bounds.{IsBelow, IsWithinReach, REACH, reach-1100, reach-1300, reach-1500, reach-1700, reach-700, reach-900, square-mono}
use Rattle.xb_ear.proofs.Fading.{sees-silence}
use Rattle.xb_ear.proofs.Standing.{is_weak, none-shown}
use Rattle.xb_ear.proofs.Near.{near-correlated, near-drop, near-take, reach}
use Rattle.xb_ear.proofs.Received.{nothing-heard}
use Rattle.xb_ear.proofs.Runs.{stays}
use Rattle.xb_ear.proofs.Scaled.{scaled, scaled-drop, scaled-take, size-scaled}
use Rattle.xb_ear.proofs.Segments.{all-in-range, between, sees}
use Rattle.xb_sound.proofs.ClearKeys.{drops}
use Rattle.xb_ear.proofs.Shown.{turned}
use Rattle.xb_ear.proofs.Steps.{known}

-- the greatest level that a frequency can have in a tone of amplitude 40,000, whose sine of 10,000 is clean
abbrev top : List ℤ → ℕ → ℕ
top clean hz =
    ((4 * unsigned_abs (correlated (sine_of hz) 0 clean) + REACH) / 400000) ^ 2
    + ((4 * unsigned_abs (correlated (cosine_of hz) 0 clean) + REACH) / 400000) ^ 2

abbrev tops : List ℤ → ℕ → Levels
tops clean power = record {
  hz700 = top clean 700;
  hz900 = top clean 900;
  hz1100 = top clean 1100;
  hz1300 = top clean 1300;
  hz1500 = top clean 1500;
  hz1700 = top clean 1700;
  power = power;
}

module _ (amplitude : ℕ) (most : amplitude ≤ 40000) (clean xs : List ℤ) (long : length clean ≡ 80)
    (near : IsNear 10000 (scaled amplitude clean) (scaled 10000 xs)) where
  size-most : (wave : ℕ → ℤ) → reach wave 0 80 ≤ REACH
      → unsigned_abs (correlated wave 0 xs) ≤ 4 * unsigned_abs (correlated wave 0 clean) + REACH
  size-most wave within =
      let many : length (scaled amplitude clean) ≡ 80 = length-map clean (λ (x : ℤ). pos amplitude *ℤ x) ∙ long in
      let apart : unsigned_abs (correlated wave 0 (scaled 10000 xs) -ℤ correlated wave 0 (scaled amplitude clean))
      ≤ 10000 * reach wave 0 80 =
      subst (λ (k : ℕ). unsigned_abs (correlated wave 0 (scaled 10000 xs) -ℤ correlated wave 0 (scaled amplitude clean))
      ≤ 10000 * reach wave 0 k) many (near-correlated 10000 wave 0 (scaled amplitude clean) (scaled 10000 xs) near) in
      let here = size-scaled wave 10000 0 xs in
      let there = size-scaled wave amplitude 0 clean in
      let few : amplitude * unsigned_abs (correlated wave 0 clean) ≤ 40000 * unsigned_abs (correlated wave 0 clean) =
      mul-le amplitude (unsigned_abs (correlated wave 0 clean)) 40000 (unsigned_abs (correlated wave 0 clean)) most (omega arith) in
      let sizes : unsigned_abs (correlated wave 0 (scaled 10000 xs))
      ≤ unsigned_abs (correlated wave 0 (scaled amplitude clean)) + 10000 * reach wave 0 80 = omega (arith, ints, apart) in
      omega (arith, here, there, few, sizes, within)

  level-top : (hz : ℕ) → IsWithinReach hz → level xs hz ≤ top clean hz
  level-top hz within =
      let s = size-most (sine_of hz) within.sine in
      let c = size-most (cosine_of hz) within.cosine in
      let ps : part (correlated (sine_of hz) 0 xs) ≤ (4 * unsigned_abs (correlated (sine_of hz) 0 clean) + REACH) / 400000 = omega (arith, s) in
      let pc : part (correlated (cosine_of hz) 0 xs) ≤ (4 * unsigned_abs (correlated (cosine_of hz) 0 clean) + REACH) / 400000 = omega (arith, c) in
      omega (arith, square-mono _ _ ps, square-mono _ _ pc)

  sees-no-pair : (k : ℕ) → list_all (is_weak (tops clean 0)) mf_pairs ≡ true → label (seen k xs) ≡ None
  sees-no-pair k weak =
      let below : IsBelow (levels_of xs) (tops clean (squares xs / 40)) = record {
        b700 = level-top 700 reach-700;
        b900 = level-top 900 reach-900;
        b1100 = level-top 1100 reach-1100;
        b1300 = level-top 1300 reach-1300;
        b1500 = level-top 1500 reach-1500;
        b1700 = level-top 1700 reach-1700;
        all = omega arith;
      } in
      ap (λ (s : Option Sight). label s) (none-shown k (levels_of xs) (tops clean (squares xs / 40)) below mf_pairs weak)

abbrev pub weak_at : ℕ → ℕ → Bool
weak_at hz n = list_all (is_weak (tops (map (λ k. sine_of hz k) (range_with_len n 80)) 0)) mf_pairs

module _ (h : ℕ) (weak : list_all (λ n. weak_at (h * 100) n) (range_with_len 0 80) ≡ true) (amplitude : ℕ)
    (most : amplitude ≤ 40000) (samples : List ℤ) (tone : IsToneOf (h * 100) amplitude samples) where
  pub sees-none-in : (k n : ℕ) → n + 80 ≤ length samples → label (seen k (take 80 (drop n samples))) ≡ None
  sees-none-in k n fits =
      let f : ℕ → ℤ = λ n. pos amplitude *ℤ sine_of (h * 100) n in
      let g : ℕ → ℤ = λ n. sine_of (h * 100) n in
      let m : ℕ = length samples in
      let start : n ≡ 0 + n = omega arith in
      let covers : m ≡ n + (m - n) = omega (arith, fits) in
      let cut : take 80 (drop n (map f (range_with_len 0 m))) ≡ map f (range_with_len n 80) =
      ap (λ (xs : List ℤ). take 80 xs) (drops f n 0 m n (m - n) start covers)
      ∙ take-map-range_with_len f n (m - n) 80 (omega (arith, fits)) in
      let rest : n % 80 < 80 = mod_below n 80 (omega arith) in
      let whole : n ≡ n / 80 * 80 + n % 80 = sym (div-add-mod' n 80) in
      let turn : map g (range_with_len n 80) ≡ map g (range_with_len (n % 80) 80) =
      turned g (sine_of-turns h) 80 n (n / 80) (n % 80) whole in
      let clean = map g (range_with_len (n % 80) 80) in
      let is-scaled : map f (range_with_len n 80) ≡ scaled amplitude clean =
      sym (map-map (λ (x : ℤ). pos amplitude *ℤ x) g (range_with_len n 80)) ∙ ap (λ (xs : List ℤ). scaled amplitude xs) turn in
      let piece : List ℤ = take 80 (drop n samples) in
      let ours : take 80 (drop n (scaled 10000 samples)) ≡ scaled 10000 piece =
      ap (λ (xs : List ℤ). take 80 xs) (scaled-drop 10000 n samples) ∙ scaled-take 10000 80 (drop n samples) in
      let near = near-take 10000 80 (drop n (map f (range_with_len 0 m))) (drop n (scaled 10000 samples))
      (near-drop 10000 n (map f (range_with_len 0 m)) (scaled 10000 samples) tone) in
      let near2 : IsNear 10000 (scaled amplitude clean) (scaled 10000 piece) =
      subst (λ (ys : List ℤ). IsNear 10000 (scaled amplitude clean) ys) ours
      (subst (λ (xs : List ℤ). IsNear 10000 xs (take 80 (drop n (scaled 10000 samples)))) (cut ∙ is-scaled) near) in
      sees-no-pair amplitude most clean piece (length-map-range_with_len g (n % 80) 80) near2 k
      (holds_below (λ i. weak_at (h * 100) i) 80 0 weak (n % 80) (omega arith) (omega arith))

  sees-none-at : (w : ℕ) → w < windows_in (length samples) → sees samples w ≡ None
  sees-none-at w below = sees-silence samples w (sees-none-in (least_before samples w) (20 * w) (omega (arith, below)))

  pub one-tone-is-no-key : keys_of_sound samples ≡ []
  one-tone-is-no-key =
      let n : ℕ = length samples in
      let all = all-in-range (sees samples) None (windows_in 0) (windows_in n - windows_in 0)
      (λ w low high. sees-none-at w (omega (arith, high))) in
      nothing-heard samples
      (stays None (between (sees samples) 0 n) all (known silent) (record { sees = refl; sounds = refl; near = inl refl }))
