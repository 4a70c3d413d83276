-- Keys are heard beside a steady sine that is louder still: what lies beside the six is steady then.
use Rattle.std.proofs.Common.{◌≡◌, ◌∙◌, ℕ, zero, suc, ◌+◌, ◌-◌, ◌*◌, ◌/◌, ◌%◌, ◌<◌, ◌≤◌, Bool, true, false, List, [], ◌∷◌, ◌++◌, map, replicate, take, drop, length, sym, ap, subst, arith, refl, ℤ, pos, ◌-ℤ◌, ◌*ℤ◌, unsigned_abs, Some, None, inl, inr, ◌⊎◌, eq-eqb, max, min, length-drop, length-take}
use Rattle.std.specs.Prelude.{◌&&◌, ◌==◌, if◌then◌else◌, nat_le}
use Rattle.std.specs.List.{list_all, list_any, range_with_len}
use Rattle.std.proofs.lemmas.Bool.{cases_lt, false≢true, leb-true}
use Rattle.std.proofs.lemmas.Int.{ints}
use Rattle.std.proofs.lemmas.List.{length-map}
use Rattle.std.proofs.lemmas.List.FromFn.{length-map-range_with_len}
use Rattle.std.proofs.lemmas.Nat.{mod_below, mul-le}
use Rattle.xb_model.specs.declared.key.Key.{Key}
use Rattle.xb_model.specs.declared.key.Key.TheVariants.{Digit, Kp, St}
use Rattle.xb_model.specs.declared.key.Tone.{Tone as Pair}
use Rattle.xb_model.specs.declared.mark.Mark.{Mark}
use Rattle.xb_model.specs.declared.mark.Mark.TheVariants.{Trunk}
use Rattle.xb_model.specs.MfPairs.{mf_pair, pair}
use Rattle.xb_sound.specs.declared.cadence.Cadence.{Cadence}
use Rattle.xb_sound.specs.HeardKeys.{AreKeyed, IsKey}
use Rattle.xb_sound.specs.Sines.{pair_sample, sine_table}
use Rattle.xb_sound.specs.Sounds.{sound_of}
use Rattle.xb_sound.proofs.KeyWaves.{each_digit}
use Rattle.xb_sound.proofs.SineTables.{holds_below}
use Rattle.xb_ear.specs.declared.levels.Levels.{Levels}
use Rattle.xb_ear.specs.declared.hum.TheConstants.{STEADY_WINDOWS}
use Rattle.xb_ear.specs.Beside.{AreHeardBesideLouderSines, HoldsLittleOf, IsBeside, IsBorne, IsSineOf, LiesBeside, LouderSinesAreBorne, mixed}
use Rattle.xb_ear.specs.Disturbed.{IsNear, bounded}
use Rattle.xb_ear.specs.Ears.{least_before, window, windows_in}
use Rattle.xb_ear.specs.HeardKeys.{IsHearableUnlike, MOST_NOISE, MOST_NOISE_IN_TONES, disturbable}
use Rattle.xb_ear.specs.Hearings.{is_same_pair}
use Rattle.xb_ear.specs.Levels.{correlated, levels_of, power, squares}
use Rattle.xb_ear.specs.Pairs.{all_levels, level_at, mf_pairs}
use Rattle.xb_ear.specs.Steady.{beside, lessened}
use Rattle.xb_ear.proofs.Bessel.{are_apart}
use Rattle.xb_ear.proofs.Bounds.{at-below, lowers}
use Rattle.xb_ear.proofs.Edges.{windows-hold}
use Rattle.xb_ear.proofs.HeardKeys.{ShowKeys}
use Rattle.xb_ear.proofs.LouderSines.{AreLowWith, IsMild, LOUD_LEAST, edges-mild, loud-beside}
use Rattle.xb_ear.proofs.Mixed.{mixed-length}
use Rattle.xb_ear.proofs.MixedKeys.{clean-bound, clean-quiet, clean_bound}
use Rattle.xb_ear.proofs.Near.{far_squares, near-length, near-squares}
use Rattle.xb_ear.proofs.Others.{six_waves}
use Rattle.xb_ear.proofs.Scaled.{scaled}
use Rattle.xb_ear.proofs.Segments.{AreMatched, ShowsBy}
use Rattle.xb_ear.proofs.Shown.{still}
use Rattle.xb_ear.proofs.Standing.{and-both, sees-pair-steady, shows_clear}
use Rattle.xb_ear.proofs.SteadySines.{IsEnough, IsLittle, is-steady, little-100, little-200, little-2600, little-300, sine-beside, both-waves, window-near, steady_sines_are_borne}
use Rattle.xb_ear.proofs.WholeSounds.{heard-after-gaps}
use Rattle.xb_ear.proofs.LoudWaves.{by-own, cosine-at, cosines_from, IsLoud, loud-100, loud-200, loud-2600, loud-300, much-left, sine-at, sines_from, turn-sum}
use Rattle.xb_ear.proofs.Products.{times}
use Rattle.xb_ear.proofs.Mixes.{IsMix, above-lowers, below-highers, clean-sound, cleans, from-place, highers, mixed-long, pairs-long, power_most, squares-most, still-mixed, window-mix}

-- one of two parts is great
one-great : (x y : ℕ) → 132250000 ≤ x * x + y * y → (8131 ≤ x) ⊎ (8131 ≤ y)
one-great x y loud = elim (cases_lt 8130 x) [
  | inl great ↦ inl (omega (arith, great))
  | inr small ↦ elim (cases_lt 8130 y) [
    | inl great ↦ inr (omega (arith, great))
    | inr both ↦
        let first = mul-le x x 8130 8130 small small in
        let second = mul-le y y 8130 8130 both both in
        absurd (omega (arith, first, second, loud))
  ]
]

near-same : (xs ys : List ℤ) → IsNear 0 xs ys → xs ≡ ys
near-same [] [] near = refl
near-same [] (y ∷ ys) near = absurd near
near-same (x ∷ xs) [] near = absurd near
near-same (x ∷ xs) (y ∷ ys) near =
    let this : x ≡ y = same x y near.0 in
    ap (λ (z : ℤ). z ∷ xs) this ∙ ap (λ (zs : List ℤ). y ∷ zs) (near-same xs ys near.1)
  where
    same : (x y : ℤ) → unsigned_abs (y -ℤ x) ≤ 0 → x ≡ y
    same x y none = omega (arith, ints, none)

-- the least that lay beside of late, where as much lies beside in each window
lessened-least : (b k now : ℕ) → (k ≡ 0) ⊎ (b ≤ k) → b ≤ now → b ≤ lessened k now
lessened-least b k now before here = by (k == 0) refl
  where
    by : (c : Bool) → (k == 0) ≡ c → b ≤ max 1 (if c then now else min now (k + k / STEADY_WINDOWS + 1))
    by true e = omega (arith, here)
    by false e = elim before [
      | inl none ↦ absurd (false≢true (sym e ∙ eq-eqb k 0 none))
      | inr most ↦ omega (arith, here, most)
    ]

least-loud : (samples : List ℤ) (b : ℕ)
    → ((w : ℕ) → w < windows_in (length samples) → b ≤ beside (levels_of (window samples w)))
    → (w : ℕ) → w < windows_in (length samples) → b ≤ least_before samples (suc w)
least-loud samples b each zero below = lessened-least b 0 (beside (levels_of (window samples 0))) (inl refl) (each 0 below)
least-loud samples b each (suc w) below =
    lessened-least b (least_before samples (suc w)) (beside (levels_of (window samples (suc w))))
    (inr (least-loud samples b each w (omega (arith, below)))) (each (suc w) below)

-- how much the first sample of a sound may be changed by
abbrev first_noise : List (ℤ × ℕ) → ℕ
first_noise [] = 0
first_noise (x ∷ xs) = x.1

-- a window of a mix, where much lay beside of late, or which begins in silence
record IsLoudMix (k : ℕ) (xs : List (ℤ × ℕ)) (ys ds : List ℤ) : Type 0 where
  mix : IsMix 0 12790 xs ys ds
  least : (LOUD_LEAST ≤ k) ⊎ (first_noise xs ≡ MOST_NOISE)

abbrev LoudMix : ℕ → List (ℤ × ℕ) → List ℤ → Type 0
LoudMix k xs ys = (ds : List ℤ) × IsLoudMix k xs ys ds

abbrev loud_shown_at : Pair → ℕ → Bool
loud_shown_at p n =
    let clean = map (λ k. pair_sample p k) (range_with_len n 80) in
    shows_clear (lowers 4 clean) (highers 4 0 clean) p
    && nat_le ((power_most 12790 clean_bound clean - (level_at (lowers 4 clean) p.low + level_at (lowers 4 clean) p.high)) / 20) LOUD_LEAST

shown_loud : (a b : ℕ) → list_any (λ q. is_same_pair q (pair (a * 100) (b * 100))) mf_pairs ≡ true
    → list_all (λ n. loud_shown_at (pair (a * 100) (b * 100)) n) (range_with_len 0 80) ≡ true
    → ((v : Levels) → level_at v (a * 100) + level_at v (b * 100) ≤ all_levels v)
    → ((ds : List ℤ) → IsBeside 12790 ds → HoldsLittleOf (a * 100) ds × HoldsLittleOf (b * 100) ds)
    → ShowsBy LoudMix MOST_NOISE_IN_TONES (λ k. pair_sample (pair (a * 100) (b * 100)) k) (Some (pair (a * 100) (b * 100)))
shown_loud a b known all within little k n ys loud = elim loud.1.least [
  | inr quiet ↦ absurd (omega (arith, quiet))
  | inl most_late ↦
      let p = pair (a * 100) (b * 100) in
      let f : ℕ → ℤ = λ k. pair_sample p k in
      let ds = loud.0 in
      let mix = loud.1.mix in
      let r : ℕ = n % 80 in
      let rest : r < 80 = mod_below n 80 (omega arith) in
      let clean = map f (range_with_len r 80) in
      let same : cleans (map (λ k. (f k, MOST_NOISE_IN_TONES)) (range_with_len n 80)) ≡ clean = from-place a b n in
      let many : length clean ≡ 80 = length-map-range_with_len f r 80 in
      let ours : length ds ≡ 80 = mix.long ∙ pairs-long f MOST_NOISE_IN_TONES n in
      let long : length ds ≡ length clean = ours ∙ sym many in
      let hold = little ds mix.beside in
      let near : IsNear 0 (mixed clean ds) ys = subst (λ (xs : List ℤ). IsNear 0 (mixed xs ds) ys) same mix.near in
      let far : squares ys ≤ far_squares 0 (mixed clean ds) = near-squares 0 (mixed clean ds) ys near in
      let most = clean-bound.most (mixed clean ds) (mixed-length clean ds long ∙ many) in
      let grown = squares-most a b ds ours hold.0 hold.1 r (40 * (12790 * 12790)) mix.beside.power in
      let all-power : power ys ≤ power_most 12790 clean_bound clean = omega (arith, far, most, grown) in
      let at = and-both (shows_clear (lowers 4 clean) (highers 4 0 clean) p)
      (nat_le ((power_most 12790 clean_bound clean - (level_at (lowers 4 clean) p.low + level_at (lowers 4 clean) p.high)) / 20) LOUD_LEAST)
      (holds_below (λ k. loud_shown_at p k) 80 0 all r (omega arith) (omega (arith, rest))) in
      let above = above-lowers 0 12790 clean ds ys many long mix.beside near in
      let v : Levels = levels_of ys in
      let low = at-below (lowers 4 clean) v above (a * 100) in
      let high = at-below (lowers 4 clean) v above (b * 100) in
      let pairs = within v in
      let few : (power_most 12790 clean_bound clean - (level_at (lowers 4 clean) p.low + level_at (lowers 4 clean) p.high)) / 20 ≤ LOUD_LEAST =
      leb-true _ _ at.1 in
      let steady : (v.power - all_levels v) / 20 ≤ k = omega (arith, few, low, high, pairs, all-power, most_late) in
      sees-pair-steady k (lowers 4 clean) (highers 4 (power_most 12790 clean_bound clean) clean) ys above
      (below-highers 0 12790 clean ds ys many long mix.beside near (power_most 12790 clean_bound clean) all-power)
      steady p known at.0
]

still-loud : ShowsBy LoudMix MOST_NOISE still None
still-loud k n ys loud = still-mixed 0 12790 clean_bound clean-bound clean-quiet k n ys (loud.0, loud.1.mix)

abbrev KeyIsLoud : Key → Type 0
KeyIsLoud key = ShowsBy LoudMix MOST_NOISE_IN_TONES (λ k. pair_sample (mf_pair key) k) (Some (mf_pair key))

loud-kp : KeyIsLoud Kp
unfolding correlated squares sine_table
loud-kp = shown_loud 11 17 refl refl (λ v. omega arith) (λ ds beside. (beside.of1100, beside.of1700))

loud-st : KeyIsLoud St
unfolding correlated squares sine_table
loud-st = shown_loud 15 17 refl refl (λ v. omega arith) (λ ds beside. (beside.of1500, beside.of1700))

loud-0 : KeyIsLoud (Digit 0)
unfolding correlated squares sine_table
loud-0 = shown_loud 13 15 refl refl (λ v. omega arith) (λ ds beside. (beside.of1300, beside.of1500))

loud-1 : KeyIsLoud (Digit 1)
unfolding correlated squares sine_table
loud-1 = shown_loud 7 9 refl refl (λ v. omega arith) (λ ds beside. (beside.of700, beside.of900))

loud-2 : KeyIsLoud (Digit 2)
unfolding correlated squares sine_table
loud-2 = shown_loud 7 11 refl refl (λ v. omega arith) (λ ds beside. (beside.of700, beside.of1100))

loud-3 : KeyIsLoud (Digit 3)
unfolding correlated squares sine_table
loud-3 = shown_loud 9 11 refl refl (λ v. omega arith) (λ ds beside. (beside.of900, beside.of1100))

loud-4 : KeyIsLoud (Digit 4)
unfolding correlated squares sine_table
loud-4 = shown_loud 7 13 refl refl (λ v. omega arith) (λ ds beside. (beside.of700, beside.of1300))

loud-5 : KeyIsLoud (Digit 5)
unfolding correlated squares sine_table
loud-5 = shown_loud 9 13 refl refl (λ v. omega arith) (λ ds beside. (beside.of900, beside.of1300))

loud-6 : KeyIsLoud (Digit 6)
unfolding correlated squares sine_table
loud-6 = shown_loud 11 13 refl refl (λ v. omega arith) (λ ds beside. (beside.of1100, beside.of1300))

loud-7 : KeyIsLoud (Digit 7)
unfolding correlated squares sine_table
loud-7 = shown_loud 7 15 refl refl (λ v. omega arith) (λ ds beside. (beside.of700, beside.of1500))

loud-8 : KeyIsLoud (Digit 8)
unfolding correlated squares sine_table
loud-8 = shown_loud 9 15 refl refl (λ v. omega arith) (λ ds beside. (beside.of900, beside.of1500))

loud-9 : KeyIsLoud (Digit 9)
unfolding correlated squares sine_table
loud-9 = shown_loud 11 15 refl refl (λ v. omega arith) (λ ds beside. (beside.of1100, beside.of1500))

key-loud : (key : Key) → IsKey key → KeyIsLoud key
key-loud Kp is = loud-kp
key-loud St is = loud-st
key-loud (Digit d) is =
    each_digit (λ d. KeyIsLoud (Digit d)) loud-0 loud-1 loud-2 loud-3 loud-4 loud-5 loud-6 loud-7 loud-8 loud-9 d is

loud-show : ShowKeys LoudMix
loud-show = record { none = still-loud; of_key = key-loud }

-- the first window begins in silence
first-quiet : (m : ℕ) (rest : List (ℤ × ℕ)) → 0 < m
    → first_noise (take 80 (drop (20 * 0) (bounded MOST_NOISE (replicate m (pos 0)) ++ rest))) ≡ MOST_NOISE
first-quiet zero rest some = absurd (omega (arith, some))
first-quiet (suc m) rest some = refl

module _ (h : ℕ) (little : IsLittle (h * 100)) (is : IsLoud (h * 100)) (cadence : Cadence) (marks : List Mark)
    (lawful : IsHearableUnlike cadence) (keyed : AreKeyed marks) (a b : ℤ) (sine : List ℤ)
    (loud : unsigned_abs a * unsigned_abs a + unsigned_abs b * unsigned_abs b ≤ 12767 * 12767)
    (louder : 132250000 ≤ unsigned_abs a * unsigned_abs a + unsigned_abs b * unsigned_abs b)
    (wave : IsSineOf (h * 100) a b sine) (long : length sine ≡ length (disturbable cadence marks)) where
  abbrev sound : List (ℤ × ℕ)
  sound = disturbable cadence marks

  abbrev samples : List ℤ
  samples = mixed (cleans sound) sine

  most : 12767 ≤ 12767
  most = omega arith

  enough : IsEnough 12767 12790
  enough = leb-true _ _ refl

  lies : LiesBeside 12790 sine
  lies = sine-beside h 12767 12790 little most enough a b loud sine wave

  near-itself : (xs : List ℤ) → IsNear 0 xs xs
  near-itself [] = tt
  near-itself (x ∷ xs) = (omega (arith, ints), near-itself xs)

  all-long : length sound ≡ length samples
  all-long = mixed-long 0 12790 sound sine samples long lies (near-itself samples)

  mix-at : (w : ℕ) → 20 * w + 80 ≤ length samples
      → IsMix 0 12790 (take 80 (drop (20 * w) sound)) (window samples w) (window sine w)
  mix-at w fits = window-mix 0 12790 sound sine samples long lies (near-itself samples) w fits

  -- a wave that the sine is loud with
  with-wave : (wave : ℕ → ℤ) → are_apart 4001100000 230000 (wave ∷ six_waves) ≡ true → AreLowWith wave → (w : ℕ)
      → 20 * w + 80 ≤ length samples → 3250000000 ≤ unsigned_abs (correlated wave 0 (window sine w))
      → LOUD_LEAST ≤ beside (levels_of (window samples w))
  with-wave wave apart low w fits much =
      let n : ℕ = 20 * w in
      let all : length sound ≡ length samples = all-long in
      let ts : List ℤ = cleans (take 80 (drop n sound)) in
      let mild : IsMild wave ts =
      windows-hold (IsMild wave) (edges-mild wave low) cadence lawful marks keyed w (omega (arith, fits, all)) in
      let mix = mix-at w fits in
      let ds : List ℤ = window sine w in
      let count : length (take 80 (drop n sound)) ≡ 80 =
      omega (arith, length-take 80 (drop n sound), length-drop n sound, fits, all) in
      let many : length ts ≡ 80 = length-map (take 80 (drop n sound)) (λ (x : ℤ × ℕ). x.0) ∙ count in
      let ours : length ds ≡ length ts = mix.long ∙ sym (length-map (take 80 (drop n sound)) (λ (x : ℤ × ℕ). x.0)) in
      let same : mixed ts ds ≡ window samples w = near-same (mixed ts ds) (window samples w) mix.near in
      subst (λ (ys : List ℤ). LOUD_LEAST ≤ beside (levels_of ys)) same
      (loud-beside wave apart ts ds many ours mild mix.beside.power much)

  each-beside : (w : ℕ) → w < windows_in (length samples) → LOUD_LEAST ≤ beside (levels_of (window samples w))
  each-beside w below =
      let all : length sound ≡ length samples = all-long in
      let fits : 20 * w + 80 ≤ length samples = omega (arith, below) in
      let here : w < windows_in (length sine) = omega (arith, below, all, long) in
      let hz : ℕ = h * 100 in
      let j : ℕ = w % 4 in
      let fourth : j < 4 = mod_below w 4 (omega arith) in
      let ds : List ℤ = window sine w in
      let piece = window-near h 12767 12790 little most enough a b loud sine wave w here in
      let steady : List ℤ = mixed (times a (sines_from hz j)) (times b (cosines_from hz j)) in
      let near : IsNear 30000 steady (scaled 10000 ds) =
      subst (λ (xs : List ℤ). IsNear 30000 xs (scaled 10000 ds)) (is-steady h 12767 12790 little most enough a b loud (20 * j)) piece.1 in
      let count : length steady ≡ 80 =
      near-length 30000 steady (scaled 10000 ds) near ∙ length-map ds (λ x. pos 10000 *ℤ x) ∙ piece.0 in
      elim (one-great (unsigned_abs a) (unsigned_abs b) louder) [
        | inl great ↦
            let found = sine-at hz is j fourth in
            let w1 : ℕ → ℤ = found.0 in
            let at = found.1 in
            let sum = both-waves hz 12767 most a b loud j fourth ds piece.0 w1 in
            let much = by-own a b (correlated w1 0 (sines_from hz j)) (correlated w1 0 (cosines_from hz j)) (correlated w1 0 steady) 0
            sum (leb-true _ _ at.none) great (leb-true _ _ at.much) in
            with-wave w1 at.is_other.apart at.is_other.low w fits
            (much-left w1 steady ds count near (leb-true _ _ at.is_other.reaches) much)
        | inr great ↦
            let found = cosine-at hz is j fourth in
            let w1 : ℕ → ℤ = found.0 in
            let at = found.1 in
            let sum = both-waves hz 12767 most a b loud j fourth ds piece.0 w1 in
            let other = turn-sum (correlated w1 0 steady) (a *ℤ correlated w1 0 (sines_from hz j)) (b *ℤ correlated w1 0 (cosines_from hz j)) sum in
            let much = by-own b a (correlated w1 0 (cosines_from hz j)) (correlated w1 0 (sines_from hz j)) (correlated w1 0 steady) 0
            other (leb-true _ _ at.none) great (leb-true _ _ at.much) in
            with-wave w1 at.is_other.apart at.is_other.low w fits
            (much-left w1 steady ds count near (leb-true _ _ at.is_other.reaches) much)
      ]

  loud-mixes : first_noise (take 80 (drop (20 * 0) sound)) ≡ MOST_NOISE → AreMatched LoudMix sound samples
  loud-mixes quiet = record {
    long = all-long;
    each = λ w fits. by w fits;
  }
    where
      by : (w : ℕ) → 20 * w + 80 ≤ length samples
          → LoudMix (least_before samples w) (take 80 (drop (20 * w) sound)) (window samples w)
      by zero fits =
          (window sine 0, record { mix = mix-at 0 fits; least = inr quiet })
      by (suc w) fits =
          let late : LOUD_LEAST ≤ least_before samples (suc w) =
          least-loud samples LOUD_LEAST each-beside w (omega (arith, fits)) in
          (window sine (suc w), record { mix = mix-at (suc w) fits; least = inl late })

heard-louder : (h : ℕ) → IsLittle (h * 100) → IsLoud (h * 100) → IsBorne (h * 100) → AreHeardBesideLouderSines (h * 100)
heard-louder h little is borne cadence marks t a b sine lawful keyed some long loud wave =
    let all = Trunk t ∷ marks in
    let sound = disturbable cadence all in
    let clean : cleans sound ≡ sound_of cadence all = clean-sound cadence all in
    let count : length (cleans sound) ≡ length sound = length-map sound (λ (x : ℤ × ℕ). x.0) in
    let same : length (cleans sound) ≡ length (sound_of cadence all) = ap (λ (xs : List ℤ). length xs) clean in
    let ours : length sine ≡ length sound = omega (arith, count, same, long) in
    let keyed-all : AreKeyed all = (tt, keyed) in
    elim (cases_lt (unsigned_abs a * unsigned_abs a + unsigned_abs b * unsigned_abs b) 132250000) [
      | inl less ↦
          borne.clean cadence all a b sine (mixed (sound_of cadence all) sine) lawful keyed-all long (omega (arith, less)) wave
          (near-all (mixed (sound_of cadence all) sine))
      | inr louder ↦
          let shorter : IsHearableUnlike cadence =
          record { kp = lawful.kp; key = lawful.key; gap = omega (arith, lawful.gap) } in
          heard-after-gaps LoudMix loud-show cadence all (mixed (sound_of cadence all) sine) lawful keyed-all
          (subst (λ (xs : List ℤ). AreMatched LoudMix sound (mixed xs sine)) clean
          (loud-mixes h little is cadence all shorter keyed-all a b sine loud louder wave ours
          (first-quiet (cadence.lead_ms * 8) (disturbable cadence marks) (omega (arith, some)))))
    ]
  where
    near-all : (xs : List ℤ) → IsNear 0 xs xs
    near-all [] = tt
    near-all (x ∷ xs) = (omega (arith, ints), near-all xs)

pub louder_sines_are_borne : LouderSinesAreBorne
louder_sines_are_borne = record {
  of100 = heard-louder 1 little-100 loud-100 steady_sines_are_borne.of100;
  of200 = heard-louder 2 little-200 loud-200 steady_sines_are_borne.of200;
  of300 = heard-louder 3 little-300 loud-300 steady_sines_are_borne.of300;
  of2600 = heard-louder 26 little-2600 loud-2600 steady_sines_are_borne.of2600;
}
