-- Windows of a sound that is mixed with another beside the six frequencies, and then changed.
use Rattle.std.proofs.Common.{◌≡◌, ◌∙◌, ℕ, ◌+◌, ◌*◌, ◌/◌, ◌%◌, ◌<◌, ◌≤◌, Bool, true, List, [], ◌∷◌, ◌++◌, map, take, drop, length, sym, ap, subst, arith, refl, ℤ, ◌+ℤ◌, ◌-ℤ◌, unsigned_abs, Option, Some, None, add-zero, length-drop, length-take}
use Rattle.std.proofs.Math.Nat.{mul-div_cancel}
use Rattle.std.specs.List.{list_all, list_any, range_with_len}
use Rattle.std.proofs.lemmas.Int.{ints}
use Rattle.std.proofs.lemmas.List.{drop-map, length-map, map-append, take-map}
use Rattle.std.proofs.lemmas.List.FromFn.{length-map-range_with_len}
use Rattle.std.proofs.lemmas.Nat.{div-add-mod', mod_below, mul-le}
use Rattle.std.proofs.lemmas.Simd.{map-map}
use Rattle.xb_model.specs.declared.mark.Mark.{Mark}
use Rattle.xb_model.specs.declared.mark.Mark.TheVariants.{Trunk, Tone, Refused}
use Rattle.xb_model.specs.declared.key.Tone.{Tone as Pair}
use Rattle.xb_model.specs.MfPairs.{pair}
use Rattle.xb_sound.specs.declared.cadence.Cadence.{Cadence}
use Rattle.xb_sound.specs.Cadences.{tone_ms}
use Rattle.xb_sound.specs.Sines.{pair_sample, sine_at, sine_sample}
use Rattle.xb_sound.specs.Sounds.{silence, sound_of, tone_sound}
use Rattle.xb_sound.proofs.Places.{pair_sample-turns}
use Rattle.xb_sound.proofs.SineTables.{holds_below}
use Rattle.xb_ear.specs.declared.levels.Levels.{Levels}
use Rattle.xb_ear.specs.Beside.{HoldsLittleOf, IsBeside, LiesBeside, mixed, wave_from}
use Rattle.xb_ear.specs.Disturbed.{IsNear, bounded}
use Rattle.xb_ear.specs.Ears.{window}
use Rattle.xb_ear.specs.HeardKeys.{MOST_NOISE, MOST_NOISE_IN_TONES, disturbable}
use Rattle.xb_ear.specs.Hearings.{is_same_pair}
use Rattle.xb_ear.specs.Levels.{correlated, cosine_of, level, levels_of, power, sine_of, squares}
use Rattle.xb_ear.specs.Pairs.{mf_pairs}
use Rattle.xb_ear.proofs.Bounds.{IsBelow, IsWithinReach, REACH, least, lowers, most, part-least, part-most, reach-1100, reach-1300, reach-1500, reach-1700, reach-700, reach-900, square-mono, uppers}
use Rattle.xb_ear.proofs.Mixed.{correlated-agrees, correlated-mixed, correlated-sum, drop-mixed, mixed-length, squares-mixed, take-mixed}
use Rattle.xb_ear.proofs.Near.{far_squares, near-correlated, near-drop, near-length, near-squares, near-take, reach}
use Rattle.xb_ear.proofs.Segments.{AreMatched, ShowsBy}
use Rattle.xb_ear.proofs.Shown.{still, still-anywhere, turned}
use Rattle.xb_ear.proofs.Standing.{is_weak, sees-none-below, sees-pair-between, shows}

-- the squares of 80 samples that may each be greater by some noise are within a bound, by their squares
pub record IsBound (noise : ℕ) (bound : ℕ → ℕ) : Type 0 where
  pub most : (xs : List ℤ) → length xs ≡ 80 → far_squares noise xs ≤ bound (squares xs)
  pub grows : (p q : ℕ) → p ≤ q → bound p ≤ bound q

-- levels that a window has at most, with this power
abbrev pub highers : ℕ → ℕ → List ℤ → Levels
highers n power clean = record (uppers n clean) { power = power }

-- 80 clean samples that are mixed with others, and then changed
module _ (noise amplitude : ℕ) (clean ds ys : List ℤ) (many : length clean ≡ 80) (long : length ds ≡ length clean)
    (beside : IsBeside amplitude ds) (near : IsNear noise (mixed clean ds) ys) where
  abbrev both : List ℤ
  both = mixed clean ds

  apart : (wave : ℕ → ℤ) → reach wave 0 80 ≤ REACH → unsigned_abs (correlated wave 0 ds) ≤ 1900000
      → unsigned_abs (correlated wave 0 ys -ℤ correlated wave 0 clean) ≤ (noise + 4) * REACH
  apart wave within few =
      let all : length both ≡ 80 = mixed-length clean ds long ∙ many in
      let first : unsigned_abs (correlated wave 0 ys -ℤ correlated wave 0 both) ≤ noise * reach wave 0 80 =
      subst (λ (k : ℕ). unsigned_abs (correlated wave 0 ys -ℤ correlated wave 0 both) ≤ noise * reach wave 0 k) all
      (near-correlated noise wave 0 both ys near) in
      let far : noise * reach wave 0 80 ≤ noise * REACH = mul-le noise (reach wave 0 80) noise REACH (omega arith) within in
      let sum = correlated-mixed wave 0 clean ds long in
      let second : unsigned_abs (correlated wave 0 both -ℤ correlated wave 0 clean) ≤ 1900000 = omega (arith, ints, sum, few) in
      omega (arith, ints, first, far, second)

  sine-apart : (hz : ℕ) → IsWithinReach hz → HoldsLittleOf hz ds
      → unsigned_abs (correlated (sine_of hz) 0 ys -ℤ correlated (sine_of hz) 0 clean) ≤ (noise + 4) * REACH
  sine-apart hz within little =
      let same : correlated (wave_from 0 hz) 0 ds ≡ correlated (sine_of hz) 0 ds =
      correlated-agrees (wave_from 0 hz) (sine_of hz)
      (λ k. ap (λ (place : ℕ). sine_at (place % 80)) (add-zero (hz * k / 100))) 0 ds in
      apart (sine_of hz) within.sine (subst (λ (z : ℤ). unsigned_abs z ≤ 1900000) same (little 0))

  cosine-apart : (hz : ℕ) → IsWithinReach hz → HoldsLittleOf hz ds
      → unsigned_abs (correlated (cosine_of hz) 0 ys -ℤ correlated (cosine_of hz) 0 clean) ≤ (noise + 4) * REACH
  cosine-apart hz within little = apart (cosine_of hz) within.cosine (little 20)

  at-most : (hz : ℕ) → IsWithinReach hz → HoldsLittleOf hz ds → level ys hz ≤ most (noise + 4) clean hz
  at-most hz within little =
      let same : REACH ≤ REACH = omega arith in
      let s = square-mono _ _ (part-most (noise + 4) REACH (correlated (sine_of hz) 0 clean) (correlated (sine_of hz) 0 ys) same (sine-apart hz within little)) in
      let c = square-mono _ _ (part-most (noise + 4) REACH (correlated (cosine_of hz) 0 clean) (correlated (cosine_of hz) 0 ys) same (cosine-apart hz within little)) in
      omega (arith, s, c)

  at-least : (hz : ℕ) → IsWithinReach hz → HoldsLittleOf hz ds → least (noise + 4) clean hz ≤ level ys hz
  at-least hz within little =
      let same : REACH ≤ REACH = omega arith in
      let s = square-mono _ _ (part-least (noise + 4) REACH (correlated (sine_of hz) 0 clean) (correlated (sine_of hz) 0 ys) same (sine-apart hz within little)) in
      let c = square-mono _ _ (part-least (noise + 4) REACH (correlated (cosine_of hz) 0 clean) (correlated (cosine_of hz) 0 ys) same (cosine-apart hz within little)) in
      omega (arith, s, c)

  pub below-highers : (p : ℕ) → power ys ≤ p → IsBelow (levels_of ys) (highers (noise + 4) p clean)
  below-highers p all = record {
    b700 = at-most 700 reach-700 beside.of700;
    b900 = at-most 900 reach-900 beside.of900;
    b1100 = at-most 1100 reach-1100 beside.of1100;
    b1300 = at-most 1300 reach-1300 beside.of1300;
    b1500 = at-most 1500 reach-1500 beside.of1500;
    b1700 = at-most 1700 reach-1700 beside.of1700;
    all = all;
  }

  pub above-lowers : IsBelow (lowers (noise + 4) clean) (levels_of ys)
  above-lowers = record {
    b700 = at-least 700 reach-700 beside.of700;
    b900 = at-least 900 reach-900 beside.of900;
    b1100 = at-least 1100 reach-1100 beside.of1100;
    b1300 = at-least 1300 reach-1300 beside.of1300;
    b1500 = at-least 1500 reach-1500 beside.of1500;
    b1700 = at-least 1700 reach-1700 beside.of1700;
    all = omega arith;
  }

-- the clean samples of a sound
abbrev pub cleans : List (ℤ × ℕ) → List ℤ
cleans xs = map (λ (x : ℤ × ℕ). x.0) xs

-- a window of a sound that is mixed with another, and then changed
pub record IsMix (noise amplitude : ℕ) (xs : List (ℤ × ℕ)) (ys ds : List ℤ) : Type 0 where
  pub long : length ds ≡ length xs
  pub beside : IsBeside amplitude ds
  pub near : IsNear noise (mixed (cleans xs) ds) ys

abbrev pub Mix : ℕ → ℕ → ℕ → List (ℤ × ℕ) → List ℤ → Type 0
Mix noise amplitude k xs ys = (ds : List ℤ) × IsMix noise amplitude xs ys ds

-- the power that a mixed window has at most
abbrev pub power_most : ℕ → (ℕ → ℕ) → List ℤ → ℕ
power_most amplitude bound clean = bound (squares clean + 4 * 1900000 + 40 * (amplitude * amplitude)) / 40

abbrev pub mixed_shown_at : ℕ → ℕ → (ℕ → ℕ) → Pair → ℕ → Bool
mixed_shown_at noise amplitude bound p n =
    let clean = map (λ k. pair_sample p k) (range_with_len n 80) in
    shows (lowers (noise + 4) clean) (highers (noise + 4) (power_most amplitude bound clean) clean) p

pub pairs-long : (f : ℕ → ℤ) (noise n : ℕ) → length {A = ℤ × ℕ} (map (λ k. (f k, noise)) (range_with_len n 80)) ≡ 80
pairs-long f noise n = length-map-range_with_len {X = ℤ × ℕ} (λ k. (f k, noise)) n 80

-- where a wave begins later
later-place : (h r k : ℕ) → sine_sample (h * 100) (r + k) ≡ wave_from (h * r) (h * 100) k
later-place h r k =
    let e : h * 100 * (r + k) ≡ (h * k + h * r) * 100 = omega arith in
    let f : h * 100 * k ≡ h * k * 100 = omega arith in
    ap (λ (m : ℕ). sine_at (m / 100 % 80)) e
    ∙ ap (λ (m : ℕ). sine_at (m % 80)) (mul-div_cancel (h * k + h * r) (omega arith))
    ∙ sym (ap (λ (m : ℕ). sine_at ((m / 100 + h * r) % 80)) f
    ∙ ap (λ (m : ℕ). sine_at ((m + h * r) % 80)) (mul-div_cancel (h * k) (omega arith)))

module _ (a b : ℕ) (ds : List ℤ) (long : length ds ≡ 80) (low : HoldsLittleOf (a * 100) ds)
    (high : HoldsLittleOf (b * 100) ds) where
  abbrev tone : ℕ → ℤ
  tone k = pair_sample (pair (a * 100) (b * 100)) k

  cross : (r : ℕ) → unsigned_abs (correlated (λ k. tone (r + k)) 0 ds) ≤ 3800000
  cross r =
      let parts : correlated (λ k. tone (r + k)) 0 ds
      ≡ correlated (wave_from (a * r) (a * 100)) 0 ds +ℤ correlated (wave_from (b * r) (b * 100)) 0 ds =
      correlated-agrees (λ k. tone (r + k)) (λ k. wave_from (a * r) (a * 100) k +ℤ wave_from (b * r) (b * 100) k)
      (λ k. ap (λ (x : ℤ). x +ℤ sine_sample (b * 100) (r + k)) (later-place a r k)
      ∙ ap (λ (y : ℤ). wave_from (a * r) (a * 100) k +ℤ y) (later-place b r k)) 0 ds
      ∙ correlated-sum (wave_from (a * r) (a * 100)) (wave_from (b * r) (b * 100)) 0 ds in
      let first : unsigned_abs (correlated (wave_from (a * r) (a * 100)) 0 ds) ≤ 1900000 = low (a * r) in
      let second : unsigned_abs (correlated (wave_from (b * r) (b * 100)) 0 ds) ≤ 1900000 = high (b * r) in
      omega (arith, ints, parts, first, second)

  pub squares-most : (r limit : ℕ) → squares ds ≤ limit
      → squares (mixed (map tone (range_with_len r 80)) ds) ≤ squares (map tone (range_with_len r 80)) + 4 * 1900000 + limit
  squares-most r limit loud =
      let start : r ≡ r + 0 = omega arith in
      let sum = squares-mixed tone r 0 r 80 ds start long in
      omega (arith, ints, sum, cross r, loud)

-- a window of a wave of two tones is that from its place in their period on
pub from-place : (a b n : ℕ)
    → cleans (map (λ k. (pair_sample (pair (a * 100) (b * 100)) k, MOST_NOISE_IN_TONES)) (range_with_len n 80))
    ≡ map (λ k. pair_sample (pair (a * 100) (b * 100)) k) (range_with_len (n % 80) 80)
from-place a b n =
    let f : ℕ → ℤ = λ k. pair_sample (pair (a * 100) (b * 100)) k in
    map-map (λ (x : ℤ × ℕ). x.0) (λ k. (f k, MOST_NOISE_IN_TONES)) (range_with_len n 80)
    ∙ turned f (pair_sample-turns a b) 80 n (n / 80) (n % 80) (sym (div-add-mod' n 80))

module _ (noise amplitude : ℕ) (bound : ℕ → ℕ) (is_bound : IsBound noise bound) where
  abbrev ShowsMixed : ℕ → (ℕ → ℤ) → Option Pair → Type 0
  ShowsMixed n f b = ShowsBy (Mix noise amplitude) n f b

  pub shown_mixed : (a b : ℕ) → list_any (λ q. is_same_pair q (pair (a * 100) (b * 100))) mf_pairs ≡ true
      → list_all (λ n. mixed_shown_at noise amplitude bound (pair (a * 100) (b * 100)) n) (range_with_len 0 80) ≡ true
      → ((ds : List ℤ) → IsBeside amplitude ds → HoldsLittleOf (a * 100) ds × HoldsLittleOf (b * 100) ds)
      → ShowsMixed MOST_NOISE_IN_TONES (λ k. pair_sample (pair (a * 100) (b * 100)) k) (Some (pair (a * 100) (b * 100)))
  shown_mixed a b known all little k n ys mix =
      let p = pair (a * 100) (b * 100) in
      let f : ℕ → ℤ = λ k. pair_sample p k in
      let ds = mix.0 in
      let r : ℕ = n % 80 in
      let rest : r < 80 = mod_below n 80 (omega arith) in
      let clean = map f (range_with_len r 80) in
      let same : cleans (map (λ k. (f k, MOST_NOISE_IN_TONES)) (range_with_len n 80)) ≡ clean = from-place a b n in
      let many : length clean ≡ 80 = length-map-range_with_len f r 80 in
      let ours : length ds ≡ 80 = mix.1.long ∙ pairs-long f MOST_NOISE_IN_TONES n in
      let long : length ds ≡ length clean = ours ∙ sym many in
      let hold = little ds mix.1.beside in
      let near : IsNear noise (mixed clean ds) ys =
      subst (λ (xs : List ℤ). IsNear noise (mixed xs ds) ys) same mix.1.near in
      let far : squares ys ≤ far_squares noise (mixed clean ds) = near-squares noise (mixed clean ds) ys near in
      let most = is_bound.most (mixed clean ds) (mixed-length clean ds long ∙ many) in
      let grown = is_bound.grows (squares (mixed clean ds)) (squares clean + 4 * 1900000 + 40 * (amplitude * amplitude))
      (squares-most a b ds ours hold.0 hold.1 r (40 * (amplitude * amplitude)) mix.1.beside.power) in
      let all-power : power ys ≤ power_most amplitude bound clean = omega (arith, far, most, grown) in
      sees-pair-between k (lowers (noise + 4) clean) (highers (noise + 4) (power_most amplitude bound clean) clean) ys
      (above-lowers noise amplitude clean ds ys many long mix.1.beside near)
      (below-highers noise amplitude clean ds ys many long mix.1.beside near (power_most amplitude bound clean) all-power)
      p known (holds_below (λ k. mixed_shown_at noise amplitude bound p k) 80 0 all r (omega arith) (omega (arith, rest)))

  -- silence is weak
  pub still-mixed : list_all (is_weak (highers (noise + 4) 0 (map still (range_with_len 0 80)))) mf_pairs ≡ true
      → ShowsMixed MOST_NOISE still None
  still-mixed weak k n ys mix =
      let ds = mix.0 in
      let clean = map still (range_with_len 0 80) in
      let same : cleans (map (λ k. (still k, MOST_NOISE)) (range_with_len n 80)) ≡ clean =
      map-map (λ (x : ℤ × ℕ). x.0) (λ k. (still k, MOST_NOISE)) (range_with_len n 80) ∙ still-anywhere 80 n 0 in
      let many : length clean ≡ 80 = length-map-range_with_len still 0 80 in
      let long : length ds ≡ length clean = mix.1.long ∙ pairs-long still MOST_NOISE n ∙ sym many in
      let near : IsNear noise (mixed clean ds) ys =
      subst (λ (xs : List ℤ). IsNear noise (mixed xs ds) ys) same mix.1.near in
      sees-none-below k (highers (noise + 4) (power ys) clean) ys
      (below-highers noise amplitude clean ds ys many long mix.1.beside near (power ys) (omega arith)) weak

-- the clean samples of the sound of marks
clean-bounded : (n : ℕ) (xs : List ℤ) → cleans (bounded n xs) ≡ xs
clean-bounded n [] = refl
clean-bounded n (x ∷ xs) = ap (λ (ys : List ℤ). x ∷ ys) (clean-bounded n xs)

clean-before : (n : ℕ) (xs : List ℤ) (rest : List (ℤ × ℕ)) (more : List ℤ) → cleans rest ≡ more
    → cleans (bounded n xs ++ rest) ≡ xs ++ more
clean-before n xs rest more is =
    map-append (λ (x : ℤ × ℕ). x.0) (bounded n xs) rest
    ∙ ap (λ (ys : List ℤ). ys ++ cleans rest) (clean-bounded n xs) ∙ ap (λ (ys : List ℤ). xs ++ ys) is

pub clean-sound : (cadence : Cadence) (marks : List Mark) → cleans (disturbable cadence marks) ≡ sound_of cadence marks
clean-sound cadence [] = refl
clean-sound cadence (Trunk t ∷ marks) =
    clean-before MOST_NOISE (silence cadence.lead_ms) (disturbable cadence marks) (sound_of cadence marks)
    (clean-sound cadence marks)
clean-sound cadence (Refused reason count ∷ marks) = clean-sound cadence marks
clean-sound cadence (Tone key p ∷ marks) =
    let tone = bounded MOST_NOISE_IN_TONES (tone_sound p (tone_ms cadence key)) in
    let pause = bounded MOST_NOISE (silence cadence.gap_ms) in
    let first : cleans (tone ++ pause) ≡ tone_sound p (tone_ms cadence key) ++ silence cadence.gap_ms =
    clean-before MOST_NOISE_IN_TONES (tone_sound p (tone_ms cadence key)) pause (silence cadence.gap_ms)
    (clean-bounded MOST_NOISE (silence cadence.gap_ms)) in
    map-append (λ (x : ℤ × ℕ). x.0) (tone ++ pause) (disturbable cadence marks)
    ∙ ap (λ (ys : List ℤ). ys ++ cleans (disturbable cadence marks)) first
    ∙ ap (λ (ys : List ℤ). (tone_sound p (tone_ms cadence key) ++ silence cadence.gap_ms) ++ ys) (clean-sound cadence marks)

-- each window of a sound that is mixed with another, and then changed
module _ (noise amplitude : ℕ) (sound : List (ℤ × ℕ)) (other samples : List ℤ) (long : length other ≡ length sound)
    (lies : LiesBeside amplitude other) (near : IsNear noise (mixed (cleans sound) other) samples) where
  pub mixed-long : length sound ≡ length samples
  mixed-long =
      let count : length (cleans sound) ≡ length sound = length-map sound (λ (x : ℤ × ℕ). x.0) in
      sym (sym (near-length noise (mixed (cleans sound) other) samples near)
      ∙ mixed-length (cleans sound) other (omega (arith, count, long)) ∙ count)

  pub window-mix : (w : ℕ) → 20 * w + 80 ≤ length samples
      → IsMix noise amplitude (take 80 (drop (20 * w) sound)) (window samples w) (window other w)
  window-mix w fits =
      let n : ℕ = 20 * w in
      let clean = cleans sound in
      let all : length sound ≡ length samples = mixed-long in
      let cut : take 80 (drop n (mixed clean other)) ≡ mixed (cleans (take 80 (drop n sound))) (window other w) =
      ap (λ (xs : List ℤ). take 80 xs) (drop-mixed n clean other)
      ∙ take-mixed 80 (drop n clean) (drop n other)
      ∙ ap (λ (xs : List ℤ). mixed (take 80 xs) (window other w)) (drop-map (λ (x : ℤ × ℕ). x.0) n sound)
      ∙ ap (λ (xs : List ℤ). mixed xs (window other w)) (take-map (λ (x : ℤ × ℕ). x.0) 80 (drop n sound)) in
      record {
        long =
            omega (
              arith,
              long,
              length-take 80 (drop n other),
              length-drop n other,
              length-take 80 (drop n sound),
              length-drop n sound,
            );
        beside = lies w (omega (arith, fits, all, long));
        near =
            subst (λ (xs : List ℤ). IsNear noise xs (window samples w)) cut
            (near-take noise 80 (drop n (mixed clean other)) (drop n samples)
            (near-drop noise n (mixed clean other) samples near));
      }

  pub matched-mixed : AreMatched (Mix noise amplitude) sound samples
  matched-mixed = record { long = mixed-long; each = λ w fits. (window other w, window-mix w fits) }
