-- Keys that are mixed with a sound beside the six frequencies are heard.
use Rattle.std.proofs.Common.{◌≡◌, ℕ, ◌+◌, ◌*◌, ◌/◌, ◌≤◌, true, List, [], ◌∷◌, map, length, sym, ap, subst, arith, refl, ℤ, unsigned_abs, Some}
use Rattle.std.specs.List.{list_all, list_any, range_with_len}
use Rattle.std.proofs.lemmas.List.{length-map}
use Rattle.xb_model.specs.declared.key.Key.{Key}
use Rattle.xb_model.specs.declared.key.Key.TheVariants.{Digit, Kp, St}
use Rattle.xb_model.specs.declared.key.Tone.{Tone as Pair}
use Rattle.xb_model.specs.MfPairs.{mf_pair, pair}
use Rattle.xb_sound.specs.HeardKeys.{IsKey}
use Rattle.xb_sound.specs.Sines.{pair_sample, sine_table}
use Rattle.xb_sound.specs.Sounds.{sound_of}
use Rattle.xb_sound.proofs.KeyWaves.{each_digit}
use Rattle.xb_ear.specs.Beside.{AreHeardBeside, BesideIsBorne, HoldsLittleOf, IsBeside, mixed}
use Rattle.xb_ear.specs.Disturbed.{IsNear}
use Rattle.xb_ear.specs.HeardKeys.{MOST_NOISE_IN_TONES, disturbable}
use Rattle.xb_ear.specs.Hearings.{is_same_pair}
use Rattle.xb_ear.specs.Levels.{correlated, squares}
use Rattle.xb_ear.specs.Pairs.{mf_pairs}
use Rattle.xb_ear.proofs.HeardKeys.{ShowKeys}
use Rattle.xb_ear.proofs.Mixed.{two-squares}
use Rattle.xb_ear.proofs.Near.{far_squares}
use Rattle.xb_ear.proofs.Segments.{ShowsBy}
use Rattle.xb_ear.proofs.Shown.{still}
use Rattle.xb_ear.proofs.Standing.{is_weak}
use Rattle.xb_ear.proofs.WholeSounds.{heard-after-gaps}
use Rattle.xb_ear.proofs.Mixes.{clean-sound, cleans, highers, IsBound, matched-mixed, Mix, mixed_shown_at, shown_mixed, still-mixed}

-- at each phase each key surely shows
abbrev IsShown : ℕ → ℕ → (ℕ → ℕ) → Pair → Type 0
IsShown noise amplitude bound p =
    list_all (λ n. mixed_shown_at noise amplitude bound p n) (range_with_len 0 80) ≡ true

record AreShown (noise amplitude : ℕ) (bound : ℕ → ℕ) : Type 0 where
  kp : IsShown noise amplitude bound (mf_pair Kp)
  st : IsShown noise amplitude bound (mf_pair St)
  d0 : IsShown noise amplitude bound (mf_pair (Digit 0))
  d1 : IsShown noise amplitude bound (mf_pair (Digit 1))
  d2 : IsShown noise amplitude bound (mf_pair (Digit 2))
  d3 : IsShown noise amplitude bound (mf_pair (Digit 3))
  d4 : IsShown noise amplitude bound (mf_pair (Digit 4))
  d5 : IsShown noise amplitude bound (mf_pair (Digit 5))
  d6 : IsShown noise amplitude bound (mf_pair (Digit 6))
  d7 : IsShown noise amplitude bound (mf_pair (Digit 7))
  d8 : IsShown noise amplitude bound (mf_pair (Digit 8))
  d9 : IsShown noise amplitude bound (mf_pair (Digit 9))
  quiet : list_all (is_weak (highers (noise + 4) 0 (map still (range_with_len 0 80)))) mf_pairs ≡ true

module _ (noise amplitude : ℕ) (bound : ℕ → ℕ) (is_bound : IsBound noise bound) (shown : AreShown noise amplitude bound) where
  abbrev KeyIsShown : Key → Type 0
  KeyIsShown key = ShowsBy (Mix noise amplitude) MOST_NOISE_IN_TONES (λ k. pair_sample (mf_pair key) k) (Some (mf_pair key))

  abbrev by_key : (a b : ℕ) → list_any (λ q. is_same_pair q (pair (a * 100) (b * 100))) mf_pairs ≡ true
      → list_all (λ n. mixed_shown_at noise amplitude bound (pair (a * 100) (b * 100)) n) (range_with_len 0 80) ≡ true
      → ((ds : List ℤ) → IsBeside amplitude ds → HoldsLittleOf (a * 100) ds × HoldsLittleOf (b * 100) ds)
      → ShowsBy (Mix noise amplitude) MOST_NOISE_IN_TONES (λ k. pair_sample (pair (a * 100) (b * 100)) k) (Some (pair (a * 100) (b * 100)))
  by_key a b known all little = shown_mixed noise amplitude bound is_bound a b known all little

  key-mixed : (key : Key) → IsKey key → KeyIsShown key
  key-mixed Kp is = by_key 11 17 refl shown.kp (λ ds beside. (beside.of1100, beside.of1700))
  key-mixed St is = by_key 15 17 refl shown.st (λ ds beside. (beside.of1500, beside.of1700))
  key-mixed (Digit d) is =
      each_digit (λ d. KeyIsShown (Digit d))
      (by_key 13 15 refl shown.d0 (λ ds beside. (beside.of1300, beside.of1500)))
      (by_key 7 9 refl shown.d1 (λ ds beside. (beside.of700, beside.of900)))
      (by_key 7 11 refl shown.d2 (λ ds beside. (beside.of700, beside.of1100)))
      (by_key 9 11 refl shown.d3 (λ ds beside. (beside.of900, beside.of1100)))
      (by_key 7 13 refl shown.d4 (λ ds beside. (beside.of700, beside.of1300)))
      (by_key 9 13 refl shown.d5 (λ ds beside. (beside.of900, beside.of1300)))
      (by_key 11 13 refl shown.d6 (λ ds beside. (beside.of1100, beside.of1300)))
      (by_key 7 15 refl shown.d7 (λ ds beside. (beside.of700, beside.of1500)))
      (by_key 9 15 refl shown.d8 (λ ds beside. (beside.of900, beside.of1500)))
      (by_key 11 15 refl shown.d9 (λ ds beside. (beside.of1100, beside.of1500)))
      d is

  mixed-show : ShowKeys (Mix noise amplitude)
  mixed-show = record { none = still-mixed noise amplitude bound is_bound shown.quiet; of_key = key-mixed }

heard-beside : (noise amplitude : ℕ) (bound : ℕ → ℕ) → IsBound noise bound → AreShown noise amplitude bound
    → AreHeardBeside amplitude noise
heard-beside noise amplitude bound is_bound shown cadence marks other samples lawful keyed long lies near =
    let sound = disturbable cadence marks in
    let clean : cleans sound ≡ sound_of cadence marks = clean-sound cadence marks in
    let count : length (cleans sound) ≡ length sound = length-map sound (λ (x : ℤ × ℕ). x.0) in
    let same : length (cleans sound) ≡ length (sound_of cadence marks) = ap (λ (xs : List ℤ). length xs) clean in
    heard-after-gaps (Mix noise amplitude) (mixed-show noise amplitude bound is_bound shown) cadence marks samples lawful keyed
    (matched-mixed noise amplitude sound other samples (omega (arith, count, same, long)) lies
    (subst (λ (xs : List ℤ). IsNear noise (mixed xs other) samples) (sym clean) near))

-- with no noise
abbrev pub clean_bound : ℕ → ℕ
clean_bound s = s

far-none : (xs : List ℤ) → far_squares 0 xs ≤ squares xs
unfolding far_squares squares
far-none [] = omega arith
far-none (x ∷ xs) =
    let later = far-none xs in
    let none : unsigned_abs x + 0 ≡ unsigned_abs x = omega arith in
    let here : (unsigned_abs x + 0) * (unsigned_abs x + 0) ≡ unsigned_abs x * unsigned_abs x = ap (λ (n : ℕ). n * n) none in
    omega (arith, later, here)

pub clean-bound : IsBound 0 clean_bound
clean-bound = record { most = λ xs long. far-none xs; grows = λ p q less. less }

-- with noise of 64
abbrev noisy_bound : ℕ → ℕ
noisy_bound s = (201 * s + 80 * 164659200) / 200

noisy-step : (x : ℕ) → 200 * ((x + 64) * (x + 64)) ≤ 201 * (x * x) + 164659200
noisy-step x =
    let e = two-squares x 12800 in
    omega (arith, e)

noisy-most : (xs : List ℤ) → 200 * far_squares 64 xs ≤ 201 * squares xs + length xs * 164659200
unfolding far_squares squares
noisy-most [] = omega arith
noisy-most (x ∷ xs) =
    let here = noisy-step (unsigned_abs x) in
    let later = noisy-most xs in
    omega (arith, here, later)

noisy-bound : IsBound 64 noisy_bound
noisy-bound = record {
  most = λ xs long.
      let few = noisy-most xs in
      let same : length xs * 164659200 ≡ 80 * 164659200 = ap (λ (n : ℕ). n * 164659200) long in
      omega (arith, few, same);
  grows = λ p q less. omega (arith, less);
}

clean-kp : IsShown 0 11510 clean_bound (mf_pair Kp)
unfolding correlated squares sine_table
clean-kp = refl

clean-st : IsShown 0 11510 clean_bound (mf_pair St)
unfolding correlated squares sine_table
clean-st = refl

clean-d0 : IsShown 0 11510 clean_bound (mf_pair (Digit 0))
unfolding correlated squares sine_table
clean-d0 = refl

clean-d1 : IsShown 0 11510 clean_bound (mf_pair (Digit 1))
unfolding correlated squares sine_table
clean-d1 = refl

clean-d2 : IsShown 0 11510 clean_bound (mf_pair (Digit 2))
unfolding correlated squares sine_table
clean-d2 = refl

clean-d3 : IsShown 0 11510 clean_bound (mf_pair (Digit 3))
unfolding correlated squares sine_table
clean-d3 = refl

clean-d4 : IsShown 0 11510 clean_bound (mf_pair (Digit 4))
unfolding correlated squares sine_table
clean-d4 = refl

clean-d5 : IsShown 0 11510 clean_bound (mf_pair (Digit 5))
unfolding correlated squares sine_table
clean-d5 = refl

clean-d6 : IsShown 0 11510 clean_bound (mf_pair (Digit 6))
unfolding correlated squares sine_table
clean-d6 = refl

clean-d7 : IsShown 0 11510 clean_bound (mf_pair (Digit 7))
unfolding correlated squares sine_table
clean-d7 = refl

clean-d8 : IsShown 0 11510 clean_bound (mf_pair (Digit 8))
unfolding correlated squares sine_table
clean-d8 = refl

clean-d9 : IsShown 0 11510 clean_bound (mf_pair (Digit 9))
unfolding correlated squares sine_table
clean-d9 = refl

pub clean-quiet : list_all (is_weak (highers (0 + 4) 0 (map still (range_with_len 0 80)))) mf_pairs ≡ true
unfolding correlated sine_table
clean-quiet = refl

clean-shown : AreShown 0 11510 clean_bound
clean-shown = record {
  kp = clean-kp;
  st = clean-st;
  d0 = clean-d0;
  d1 = clean-d1;
  d2 = clean-d2;
  d3 = clean-d3;
  d4 = clean-d4;
  d5 = clean-d5;
  d6 = clean-d6;
  d7 = clean-d7;
  d8 = clean-d8;
  d9 = clean-d9;
  quiet = clean-quiet;
}

noisy-kp : IsShown 64 11010 noisy_bound (mf_pair Kp)
unfolding correlated squares sine_table
noisy-kp = refl

noisy-st : IsShown 64 11010 noisy_bound (mf_pair St)
unfolding correlated squares sine_table
noisy-st = refl

noisy-d0 : IsShown 64 11010 noisy_bound (mf_pair (Digit 0))
unfolding correlated squares sine_table
noisy-d0 = refl

noisy-d1 : IsShown 64 11010 noisy_bound (mf_pair (Digit 1))
unfolding correlated squares sine_table
noisy-d1 = refl

noisy-d2 : IsShown 64 11010 noisy_bound (mf_pair (Digit 2))
unfolding correlated squares sine_table
noisy-d2 = refl

noisy-d3 : IsShown 64 11010 noisy_bound (mf_pair (Digit 3))
unfolding correlated squares sine_table
noisy-d3 = refl

noisy-d4 : IsShown 64 11010 noisy_bound (mf_pair (Digit 4))
unfolding correlated squares sine_table
noisy-d4 = refl

noisy-d5 : IsShown 64 11010 noisy_bound (mf_pair (Digit 5))
unfolding correlated squares sine_table
noisy-d5 = refl

noisy-d6 : IsShown 64 11010 noisy_bound (mf_pair (Digit 6))
unfolding correlated squares sine_table
noisy-d6 = refl

noisy-d7 : IsShown 64 11010 noisy_bound (mf_pair (Digit 7))
unfolding correlated squares sine_table
noisy-d7 = refl

noisy-d8 : IsShown 64 11010 noisy_bound (mf_pair (Digit 8))
unfolding correlated squares sine_table
noisy-d8 = refl

noisy-d9 : IsShown 64 11010 noisy_bound (mf_pair (Digit 9))
unfolding correlated squares sine_table
noisy-d9 = refl

noisy-quiet : list_all (is_weak (highers (64 + 4) 0 (map still (range_with_len 0 80)))) mf_pairs ≡ true
unfolding correlated sine_table
noisy-quiet = refl

noisy-shown : AreShown 64 11010 noisy_bound
noisy-shown = record {
  kp = noisy-kp;
  st = noisy-st;
  d0 = noisy-d0;
  d1 = noisy-d1;
  d2 = noisy-d2;
  d3 = noisy-d3;
  d4 = noisy-d4;
  d5 = noisy-d5;
  d6 = noisy-d6;
  d7 = noisy-d7;
  d8 = noisy-d8;
  d9 = noisy-d9;
  quiet = noisy-quiet;
}

pub beside_is_borne : BesideIsBorne
beside_is_borne = record {
  clean = heard-beside 0 11510 clean_bound clean-bound clean-shown;
  noisy = heard-beside 64 11010 noisy_bound noisy-bound noisy-shown;
}
