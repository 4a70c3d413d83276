-- Keys with noise are near the sound of marks.
use Rattle.std.proofs.Common.{◌≡◌, ◌∙◌, ℕ, zero, suc, ◌+◌, ◌-◌, ◌*◌, ◌<◌, ◌≤◌, ◌⊎◌, inl, inr, Bool, true, false, List, [], ◌∷◌, ◌++◌, map, cond, leb, refl, sym, ap, subst, arith, ℤ, pos, negsuc, ◌+ℤ◌, ◌-ℤ◌, unsigned_abs}
use Rattle.std.specs.List.{AllByRecursion, range_with_len}
use Rattle.std.proofs.lemmas.Bool.{leb-false, leb-true}
use Rattle.std.proofs.lemmas.Int.{ints}
use Rattle.xb_model.specs.declared.key.Key.{Key as PageKey}
use Rattle.xb_model.specs.declared.mark.Mark.TheVariants.{Trunk}
use Rattle.xb_model.specs.Keyings.{tone}
use Rattle.xb_sound.specs.HeardKeys.{AreKeyed, IsKey}
use Rattle.xb_ear.specs.Disturbed.{IsNear}
use Rattle.xb_ear.proofs.WholeSounds.{noisy_keys_are_heard as near_keys_are_heard}
use Rattle.xb_signal.specs.declared.moment.Moment.{Moment}
use Rattle.xb_signal.specs.declared.segment.Segment.{Segment}
use Rattle.xb_signal.specs.declared.segment.Sound.{Sound}
use Rattle.xb_signal.specs.declared.segment.Sound.TheVariants.{Keyed, Written}
use Rattle.xb_signal.specs.declared.setting.Setting.{Setting}
use Rattle.xb_signal.specs.declared.shape.Shape.{Shape}
use Rattle.xb_signal.specs.declared.steady.Steady.{Steady}
use Rattle.xb_signal.specs.Moments.{moment_after, start}
use Rattle.xb_signal.specs.Steadies.{steady_sample}
use Rattle.xb_chance.specs.Swings.{swing}
use Rattle.xb_chance.proofs.Swings.{swing_is_small}
use Rattle.xb_signal.specs.Segments.{segment_sound, signal_from}
use Rattle.xb_signal.specs.Settings.{standard_setting}
use Rattle.xb_signal.specs.OneSample.{clean_sample, cut, quiet_sample, sample_at}
use Rattle.xb_signal.specs.Shapes.{keyed_sample}
use Rattle.xb_signal.specs.Waves.{mixed}
use Rattle.xb_signal.proofs.HeardNames.{keys_sound_as_marks}
use Rattle.xb_tone.specs.NoisyKeys.{IsQuiet, NoisyKeysAreHeard, keyed}

-- a sample has 16 bits and is as it is, or it is over the greatest, or under the least
abbrev IsIn : ℤ → ℤ → Type 0
IsIn x y = (k : ℕ) × (x +ℤ pos 32768 ≡ pos k) × (k < 65536) × (y ≡ x)

abbrev IsOver : ℤ → ℤ → Type 0
IsOver x y = (k : ℕ) × (x ≡ pos k) × (32767 < k) × (y ≡ pos 32767)

abbrev IsUnder : ℤ → ℤ → Type 0
IsUnder x y = (k : ℕ) × (x ≡ negsuc k) × (32767 < k) × (y ≡ negsuc 32767)

abbrev IsCut : ℤ → ℤ → Type 0
IsCut x y = IsIn x y ⊎ (IsOver x y ⊎ IsUnder x y)

in-above : (x : ℕ) → x ≤ 32767 → IsIn (pos x) (pos x)
in-above x small = (x + 32768, omega (arith, ints), omega (arith, small), refl)

in-below : (x : ℕ) → x ≤ 32767 → IsIn (negsuc x) (negsuc x)
in-below x small = (32767 - x, omega (arith, ints, small), omega arith, refl)

cut-is : (x : ℤ) → IsCut x (cut x)
cut-is (pos x) = by (leb x 32767) refl
  where
    by : (small : Bool) → leb x 32767 ≡ small → IsCut (pos x) (cond small (pos x) (pos 32767))
    by true is = inl (in-above x (leb-true x 32767 is))
    by false is = inr (inl (x, refl, leb-false x 32767 is, refl))
cut-is (negsuc x) = by (leb x 32767) refl
  where
    by : (small : Bool) → leb x 32767 ≡ small → IsCut (negsuc x) (cond small (negsuc x) (negsuc 32767))
    by true is = inl (in-below x (leb-true x 32767 is))
    by false is = inr (inr (x, refl, leb-false x 32767 is, refl))

-- cutting brings samples no further apart
cut-apart : (n : ℕ) (x y a b : ℤ) → unsigned_abs (y -ℤ x) ≤ n → IsCut x a → IsCut y b → unsigned_abs (b -ℤ a) ≤ n
cut-apart n x y a b near (inl (j, x_is, few, a_is)) (inl (k, y_is, less, b_is)) =
    omega (arith, ints, near, a_is, b_is)
cut-apart n x y a b near (inl (j, x_is, few, a_is)) (inr (inl (k, y_is, over, b_is))) =
    omega (arith, ints, near, x_is, few, a_is, y_is, over, b_is)
cut-apart n x y a b near (inl (j, x_is, few, a_is)) (inr (inr (k, y_is, under, b_is))) =
    omega (arith, ints, near, x_is, few, a_is, y_is, under, b_is)
cut-apart n x y a b near (inr (inl (j, x_is, high, a_is))) (inl (k, y_is, less, b_is)) =
    omega (arith, ints, near, x_is, high, a_is, y_is, less, b_is)
cut-apart n x y a b near (inr (inl (j, x_is, high, a_is))) (inr (inl (k, y_is, over, b_is))) =
    omega (arith, ints, a_is, b_is)
cut-apart n x y a b near (inr (inl (j, x_is, high, a_is))) (inr (inr (k, y_is, under, b_is))) =
    omega (arith, ints, near, x_is, high, a_is, y_is, under, b_is)
cut-apart n x y a b near (inr (inr (j, x_is, low, a_is))) (inl (k, y_is, less, b_is)) =
    omega (arith, ints, near, x_is, low, a_is, y_is, less, b_is)
cut-apart n x y a b near (inr (inr (j, x_is, low, a_is))) (inr (inl (k, y_is, over, b_is))) =
    omega (arith, ints, near, x_is, low, a_is, y_is, over, b_is)
cut-apart n x y a b near (inr (inr (j, x_is, low, a_is))) (inr (inr (k, y_is, under, b_is))) =
    omega (arith, ints, a_is, b_is)

one-noise : (x e f : ℤ) (n : ℕ) → unsigned_abs e ≤ n → unsigned_abs f ≤ 0 → unsigned_abs ((x +ℤ e) -ℤ (x +ℤ f)) ≤ n
one-noise x e f n small none = omega (arith, ints, small, none)

noisy-sample : (peak : ℕ) (clean : ℤ) (e f : ℤ) → unsigned_abs e ≤ peak → unsigned_abs f ≤ 0
    → unsigned_abs (cut (clean +ℤ e) -ℤ cut (clean +ℤ f)) ≤ peak
noisy-sample peak clean e f small none =
    cut-apart peak (clean +ℤ f) (clean +ℤ e) (cut (clean +ℤ f)) (cut (clean +ℤ e))
    (one-noise clean e f peak small none) (cut-is (clean +ℤ f)) (cut-is (clean +ℤ e))

near-map : (n : ℕ) (f g : ℕ → ℤ) → ((k : ℕ) → unsigned_abs (g k -ℤ f k) ≤ n) → (m i : ℕ)
    → IsNear n (map f (range_with_len i m)) (map g (range_with_len i m))
near-map n f g near zero i = tt
near-map n f g near (suc m) i = (near i, near-map n f g near m (i + 1))

near-append : (n : ℕ) (xs ys us vs : List ℤ) → IsNear n xs ys → IsNear n us vs → IsNear n (xs ++ us) (ys ++ vs)
near-append n [] [] us vs first later = later
near-append n [] (y ∷ ys) us vs first later = absurd first
near-append n (x ∷ xs) [] us vs first later = absurd first
near-append n (x ∷ xs) (y ∷ ys) us vs first later = (first.0, near-append n xs ys us vs first.1 later)

-- what nothing disturbs is as loud as ever, whatever its state is
clean-same : (setting : Setting) → IsQuiet setting → (from to : ℕ) (sound : Sound) (n : ℕ)
    → clean_sample setting to sound n ≡ clean_sample standard_setting from sound n
clean-same setting quiet from to (Written tones) n =
    ap (λ (low : ℕ). mixed low setting.high tones n) quiet.low
    ∙ ap (λ (high : ℕ). mixed 10000 high tones n) quiet.high
clean-same setting quiet from to (Keyed pair) n =
    ap (λ (low : ℕ). keyed_sample low setting.high setting.shape to pair n) quiet.low
    ∙ ap (λ (high : ℕ). keyed_sample 10000 high setting.shape to pair n) quiet.high
    ∙ ap (λ (shape : Shape). keyed_sample 10000 10000 shape to pair n) quiet.shape

quiet-same : (setting : Setting) → IsQuiet setting → (from to : Moment) (sound : Sound) (n : ℕ)
    → quiet_sample setting to sound n ≡ quiet_sample standard_setting from sound n
quiet-same setting quiet from to sound n =
    ap (λ (clean : ℤ). clean +ℤ steady_sample setting.steady (to.place + n))
    (clean-same setting quiet from.noise to.noise sound n)
    ∙ ap (λ (steady : Steady). clean_sample standard_setting from.noise sound n +ℤ steady_sample steady (to.place + n))
    quiet.steady

near-sample : (setting : Setting) → IsQuiet setting → (from to : Moment) (sound : Sound) (n : ℕ)
    → unsigned_abs (sample_at setting to sound n -ℤ sample_at standard_setting from sound n) ≤ setting.noise_peak
near-sample setting quiet from to sound n =
    let plain = sample_at standard_setting from sound n in
    let peak : ℕ = setting.noise_peak in
    subst (λ (sample : ℤ). unsigned_abs (cut (sample +ℤ swing peak to.noise n) -ℤ plain) ≤ peak)
    (sym (quiet-same setting quiet from to sound n))
    (noisy-sample peak (quiet_sample standard_setting from sound n) (swing peak to.noise n) (swing 0 from.noise n)
    (swing_is_small peak to.noise n) (swing_is_small 0 from.noise n))

-- a signal with noise is near the one without, whatever the states of the two are
near-signal : (setting : Setting) → IsQuiet setting → (from to : Moment) (segments : List Segment)
    → IsNear setting.noise_peak (signal_from standard_setting from segments) (signal_from setting to segments)
near-signal setting quiet from to [] = tt
near-signal setting quiet from to (segment ∷ later) =
    let from_next : Moment = moment_after from (segment.ms * 8) in
    let to_next : Moment = moment_after to (segment.ms * 8) in
    near-append setting.noise_peak (segment_sound standard_setting from segment) (segment_sound setting to segment)
    (signal_from standard_setting from_next later) (signal_from setting to_next later)
    (near-map setting.noise_peak (λ n. sample_at standard_setting from segment.sound n)
    (λ n. sample_at setting to segment.sound n) (λ n. near-sample setting quiet from to segment.sound n)
    (segment.ms * 8) 0)
    (near-signal setting quiet from_next to_next later)

more-near : (n m : ℕ) → n ≤ m → (xs ys : List ℤ) → IsNear n xs ys → IsNear m xs ys
more-near n m less [] [] near = tt
more-near n m less [] (y ∷ ys) near = absurd near
more-near n m less (x ∷ xs) [] near = absurd near
more-near n m less (x ∷ xs) (y ∷ ys) near = (omega (arith, near.0), more-near n m less xs ys near.1)

pub are-keyed : (keys : List PageKey) → AllByRecursion IsKey keys → AreKeyed (map tone keys)
are-keyed [] all = tt
are-keyed (key ∷ keys) all = ((all.0, refl), are-keyed keys all.1)

quiet-near : (setting : Setting) → IsQuiet setting → (segments : List Segment)
    → IsNear 277 (signal_from standard_setting (start 0) segments) (signal_from setting (start setting.seed) segments)
quiet-near setting quiet segments =
    more-near setting.noise_peak 277 quiet.noise (signal_from standard_setting (start 0) segments)
    (signal_from setting (start setting.seed) segments) (near-signal setting quiet (start 0) (start setting.seed) segments)

pub noisy_keys_are_heard : NoisyKeysAreHeard
noisy_keys_are_heard cadence keys setting hearable all quiet =
    let samples = signal_from setting (start setting.seed) (keyed cadence keys) in
    near_keys_are_heard cadence (Trunk 0 ∷ map tone keys) samples hearable (tt, are-keyed keys all)
    (subst (λ (clean : List ℤ). IsNear 277 clean samples) (keys_sound_as_marks cadence 0 keys all)
    (quiet-near setting quiet (keyed cadence keys)))
