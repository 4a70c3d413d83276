-- What repeats 200 times a second changes no level of the six frequencies: each goes through an odd number of half periods
-- in 40 samples, and so turns over.
use Rattle.std.proofs.Common.{◌≡◌, ◌∙◌, ℕ, zero, suc, ◌+◌, ◌-◌, ◌*◌, ◌/◌, ◌%◌, ◌^◌, ◌<◌, ◌≤◌, List, map, take, drop, length, sym, ap, subst, arith, refl, ℤ, pos, ◌+ℤ◌, ◌*ℤ◌, neg_ℤ, unsigned_abs, add-zero, length-drop, length-take}
use lib.IntN.{*ℤ_comm}
use Rattle.std.proofs.Math.Nat.{add-mul-mod_self_right}
use Rattle.std.specs.Prelude.{nat_le}
use Rattle.std.specs.List.{range_with_len}
use Rattle.std.proofs.lemmas.Bool.{leb-true}
use Rattle.std.proofs.lemmas.Int.{ints}
use Rattle.std.proofs.lemmas.List.FromFn.{length-map-range_with_len, take-map-range_with_len}
use Rattle.std.proofs.lemmas.Nat.{div-add-mod', mod_below}
use Rattle.xb_sound.specs.Sines.{sine_at, sine_table}
use Rattle.xb_sound.specs.Sounds.{sound_of}
use Rattle.xb_sound.proofs.SineTables.{holds_below}
use Rattle.xb_ear.specs.Beside.{AreHeardBeside, AreHeardBesideRipples, HoldsLittleOf, IsBeside, LevelsAreKept, LiesBeside, Repeats, RipplesAreBorne, mixed, ripple, wave_from}
use Rattle.xb_ear.specs.Ears.{window, windows_in}
use Rattle.xb_ear.specs.Levels.{correlated, cosine_of, level, part, sine_of, squares}
use Rattle.xb_ear.proofs.Mixed.{correlated-agrees, correlated-mixed, drop-mixed, take-mixed}
use Rattle.xb_ear.proofs.MixedKeys.{beside_is_borne}
use Rattle.xb_ear.proofs.Places.{place-whole}
use Rattle.xb_sound.proofs.ClearKeys.{drops}
use Rattle.xb_ear.proofs.Windows.{window-fits}
use Rattle.xb_ear.proofs.Products.{neg-times}

-- the table turns over after half of it
abbrev is_turned : ℕ → ℕ
is_turned r = unsigned_abs (sine_at ((r + 40) % 80) +ℤ sine_at r)

table-turns : (r : ℕ) → r < 80 → is_turned r ≤ 0
unfolding sine_table
table-turns r below = leb-true _ _ (holds_below (λ r. nat_le (is_turned r) 0) 80 0 refl r (omega arith) (omega (arith, below)))

opposite : (x y : ℤ) → unsigned_abs (x +ℤ y) ≤ 0 → x ≡ neg_ℤ y
opposite x y none = omega (arith, ints, none)

sine-turns : (x : ℕ) → sine_at ((x + 40) % 80) ≡ neg_ℤ (sine_at (x % 80))
sine-turns x =
    let r : ℕ = x % 80 in
    let below : r < 80 = mod_below x 80 (omega arith) in
    let whole : x + 40 ≡ r + 40 + x / 80 * 80 = omega (arith, div-add-mod' x 80) in
    ap (λ (m : ℕ). sine_at (m % 80)) whole ∙ ap (λ (m : ℕ). sine_at m) (add-mul-mod_self_right (r + 40) (x / 80) 80)
    ∙ opposite (sine_at ((r + 40) % 80)) (sine_at r) (table-turns r below)

-- so does each odd multiple of 100 Hz
pub wave-turns : (t place k : ℕ)
    → wave_from place ((2 * t + 1) * 100) (k + 40) ≡ neg_ℤ (wave_from place ((2 * t + 1) * 100) k)
wave-turns t place k =
    let h : ℕ = 2 * t + 1 in
    let at : (2 * t + 1) * (k + 40) + place ≡ (2 * t + 1) * k + place + 40 + t * 80 = omega arith in
    ap (λ (m : ℕ). sine_at ((m + place) % 80)) (place-whole h (k + 40))
    ∙ ap (λ (m : ℕ). sine_at (m % 80)) at
    ∙ ap (λ (m : ℕ). sine_at m) (add-mul-mod_self_right (h * k + place + 40) t 80)
    ∙ sine-turns (h * k + place)
    ∙ sym (ap (λ (m : ℕ). neg_ℤ (sine_at ((m + place) % 80))) (place-whole h k))

module _ (f d : ℕ → ℤ) (turns : (k : ℕ) → f (k + 40) ≡ neg_ℤ (f k)) (repeats : Repeats d) where
  neg-sum : (x y u v : ℤ) → x ≡ neg_ℤ y → u ≡ neg_ℤ v → x +ℤ u ≡ neg_ℤ (y +ℤ v)
  neg-sum x y u v hx hu = omega (arith, ints, hx, hu)

  -- 40 samples later the sum is turned over
  later : (m i n j p : ℕ) → j ≡ i + 40 → p ≡ n + 40
      → correlated f j (map d (range_with_len p m)) ≡ neg_ℤ (correlated f i (map d (range_with_len n m)))
  unfolding correlated
  later zero i n j p at there = refl
  later (suc m) i n j p at there =
      let sample : d p ≡ d n = ap d there ∙ repeats n in
      let wave : f j ≡ neg_ℤ (f i) = ap f at ∙ turns i in
      let product : d p *ℤ f j ≡ neg_ℤ (d n *ℤ f i) =
      ap (λ (z : ℤ). z *ℤ f j) sample ∙ ap (λ (z : ℤ). d n *ℤ z) wave
      ∙ *ℤ_comm (d n) (neg_ℤ (f i)) ∙ neg-times (f i) (d n) ∙ ap (λ (z : ℤ). neg_ℤ z) (*ℤ_comm (f i) (d n)) in
      neg-sum (d p *ℤ f j) (d n *ℤ f i) (correlated f (j + 1) (map d (range_with_len (p + 1) m)))
      (correlated f (i + 1) (map d (range_with_len (n + 1) m))) product
      (later m (i + 1) (n + 1) (j + 1) (p + 1) (omega (arith, at)) (omega (arith, there)))

  sum-zero : (x : ℤ) → x ≡ pos 0 +ℤ x
  sum-zero x = omega (arith, ints)

  sum-on : (x y u v : ℤ) → y ≡ u +ℤ v → x +ℤ y ≡ (x +ℤ u) +ℤ v
  sum-on x y u v h = omega (arith, ints, h)

  -- the sum over some samples and over more of them
  split : (m r i n k j p : ℕ) → k ≡ m + r → j ≡ i + m → p ≡ n + m
      → correlated f i (map d (range_with_len n k))
      ≡ correlated f i (map d (range_with_len n m)) +ℤ correlated f j (map d (range_with_len p r))
  unfolding correlated
  split zero r i n k j p all at there =
      let same : k ≡ r = omega (arith, all) in
      let here : i ≡ j = omega (arith, at) in
      let start : n ≡ p = omega (arith, there) in
      ap (λ (a : ℕ). correlated f i (map d (range_with_len n a))) same
      ∙ ap (λ (a : ℕ). correlated f a (map d (range_with_len n r))) here
      ∙ ap (λ (a : ℕ). correlated f j (map d (range_with_len a r))) start
      ∙ sum-zero (correlated f j (map d (range_with_len p r)))
  split (suc m) r i n zero j p all at there = absurd (omega (arith, all))
  split (suc m) r i n (suc k) j p all at there =
      sum-on (d n *ℤ f i) (correlated f (i + 1) (map d (range_with_len (n + 1) k)))
      (correlated f (i + 1) (map d (range_with_len (n + 1) m))) (correlated f j (map d (range_with_len p r)))
      (split m r (i + 1) (n + 1) k j p (omega (arith, all)) (omega (arith, at)) (omega (arith, there)))

  nothing-left : (x y z : ℤ) → z ≡ x +ℤ y → y ≡ neg_ℤ x → z ≡ pos 0
  nothing-left x y z sum turn = omega (arith, ints, sum, turn)

  -- so a whole window sums to nothing
  pub window-none : (n : ℕ) → correlated f 0 (map d (range_with_len n 80)) ≡ pos 0
  window-none n =
      nothing-left (correlated f 0 (map d (range_with_len n 40))) (correlated f 40 (map d (range_with_len (n + 40) 40)))
      (correlated f 0 (map d (range_with_len n 80)))
      (split 40 40 0 n 80 40 (n + 40) refl refl refl)
      (later 40 0 n 40 (n + 40) refl refl)

module _ (d : ℕ → ℤ) (repeats : Repeats d) where
  none-of : (t place n : ℕ) → correlated (wave_from place ((2 * t + 1) * 100)) 0 (map d (range_with_len n 80)) ≡ pos 0
  none-of t place n = window-none (wave_from place ((2 * t + 1) * 100)) d (wave-turns t place) repeats n

  no-more : (x : ℤ) → x ≡ pos 0 → unsigned_abs x ≤ 1900000
  no-more x none = omega (arith, ints, none)

  holds-none : (t n : ℕ) → HoldsLittleOf ((2 * t + 1) * 100) (map d (range_with_len n 80))
  holds-none t n place = no-more (correlated (wave_from place ((2 * t + 1) * 100)) 0 (map d (range_with_len n 80))) (none-of t place n)

  -- a window of it is 80 samples of it
  window-is : (m w : ℕ) → 20 * w + 80 ≤ m → window (map d (range_with_len 0 m)) w ≡ map d (range_with_len (20 * w) 80)
  window-is m w fits =
      let n : ℕ = 20 * w in
      let start : n ≡ 0 + n = omega arith in
      let covers : m ≡ n + (m - n) = omega (arith, fits) in
      ap (λ (xs : List ℤ). take 80 xs) (drops d n 0 m n (m - n) start covers)
      ∙ take-map-range_with_len d n (m - n) 80 (omega (arith, fits))

  same-sum : (x y z : ℤ) → z ≡ x +ℤ y → y ≡ pos 0 → z ≡ x
  same-sum x y z sum none = omega (arith, ints, sum, none)

  -- a level of samples that are mixed with it
  level-kept : (t n : ℕ) (xs : List ℤ) → length xs ≡ 80
      → level (mixed xs (map d (range_with_len n 80))) ((2 * t + 1) * 100) ≡ level xs ((2 * t + 1) * 100)
  level-kept t n xs long =
      let hz : ℕ = (2 * t + 1) * 100 in
      let ds = map d (range_with_len n 80) in
      let ours : length ds ≡ length xs = length-map-range_with_len {X = ℤ} d n 80 ∙ sym long in
      let even : correlated (sine_of hz) 0 ds ≡ pos 0 =
      sym (correlated-agrees (wave_from 0 hz) (sine_of hz)
      (λ k. ap (λ (place : ℕ). sine_at (place % 80)) (add-zero (hz * k / 100))) 0 ds)
      ∙ none-of t 0 n in
      let s : correlated (sine_of hz) 0 (mixed xs ds) ≡ correlated (sine_of hz) 0 xs =
      same-sum (correlated (sine_of hz) 0 xs) (correlated (sine_of hz) 0 ds) (correlated (sine_of hz) 0 (mixed xs ds))
      (correlated-mixed (sine_of hz) 0 xs ds ours) even in
      let c : correlated (cosine_of hz) 0 (mixed xs ds) ≡ correlated (cosine_of hz) 0 xs =
      same-sum (correlated (cosine_of hz) 0 xs) (correlated (cosine_of hz) 0 ds) (correlated (cosine_of hz) 0 (mixed xs ds))
      (correlated-mixed (cosine_of hz) 0 xs ds ours) (none-of t 20 n) in
      ap (λ (z : ℤ). part z ^ 2 + part (correlated (cosine_of hz) 0 (mixed xs ds)) ^ 2) s
      ∙ ap (λ (z : ℤ). part (correlated (sine_of hz) 0 xs) ^ 2 + part z ^ 2) c

pub levels_are_kept : LevelsAreKept
levels_are_kept d samples w repeats below =
    let m : ℕ = length samples in
    let n : ℕ = 20 * w in
    let fits : n + 80 ≤ m = window-fits m w below in
    let long : length (window samples w) ≡ 80 = omega (arith, length-take 80 (drop n samples), length-drop n samples, fits) in
    let is : window (mixed samples (ripple d samples)) w ≡ mixed (window samples w) (map d (range_with_len n 80)) =
    ap (λ (xs : List ℤ). take 80 xs) (drop-mixed n samples (ripple d samples))
    ∙ take-mixed 80 (drop n samples) (drop n (ripple d samples))
    ∙ ap (λ (xs : List ℤ). mixed (window samples w) xs) (window-is d repeats m w fits) in
    let kept : (t : ℕ) → level (window (mixed samples (ripple d samples)) w) ((2 * t + 1) * 100)
    ≡ level (window samples w) ((2 * t + 1) * 100) =
    λ t. ap (λ (xs : List ℤ). level xs ((2 * t + 1) * 100)) is ∙ level-kept d repeats t n (window samples w) long in
    (kept 3, (kept 4, (kept 5, (kept 6, (kept 7, (kept 8, tt))))))

ripple-beside : (amplitude m : ℕ) (d : ℕ → ℤ) → Repeats d
    → ((n : ℕ) → squares (map d (range_with_len n 80)) ≤ 40 * (amplitude * amplitude))
    → LiesBeside amplitude (map d (range_with_len 0 m))
ripple-beside amplitude m d repeats few w below =
    let long : length {A = ℤ} (map d (range_with_len 0 m)) ≡ m = length-map-range_with_len {X = ℤ} d 0 m in
    let fits : 20 * w + 80 ≤ m = window-fits m w (subst (λ (k : ℕ). w < windows_in k) long below) in
    subst (λ (xs : List ℤ). IsBeside amplitude xs) (sym (window-is d repeats m w fits)) (record {
      of700 = holds-none d repeats 3 (20 * w);
      of900 = holds-none d repeats 4 (20 * w);
      of1100 = holds-none d repeats 5 (20 * w);
      of1300 = holds-none d repeats 6 (20 * w);
      of1500 = holds-none d repeats 7 (20 * w);
      of1700 = holds-none d repeats 8 (20 * w);
      power = few (20 * w);
    })

heard-beside-ripples : (amplitude noise : ℕ) → AreHeardBeside amplitude noise → AreHeardBesideRipples amplitude noise
heard-beside-ripples amplitude noise heard cadence marks d samples lawful keyed repeats few near =
    let sound = sound_of cadence marks in
    heard cadence marks (ripple d sound) samples lawful keyed (length-map-range_with_len {X = ℤ} d 0 (length sound))
    (ripple-beside amplitude (length sound) d repeats few) near

pub ripples_are_borne : RipplesAreBorne
ripples_are_borne = record {
  clean = heard-beside-ripples 11510 0 beside_is_borne.clean;
  noisy = heard-beside-ripples 11010 64 beside_is_borne.noisy;
}
