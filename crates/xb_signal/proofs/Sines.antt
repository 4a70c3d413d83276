-- The waves of multiples of 100 Hz are the sines of marks.
use Rattle.std.proofs.Common.{◌≡◌, ◌∙◌, ℕ, zero, suc, ◌+◌, ◌*◌, ◌/◌, ◌%◌, ◌<◌, ◌≤◌, List, [], ◌∷◌, ◌++◌, map, replicate, sym, ap, arith, refl, leb, ℤ, pos, negsuc, neg_ℤ, ◌+ℤ◌, ◌-ℤ◌, unsigned_abs}
use Rattle.std.specs.List.{flat_map, range_with_len}
use Rattle.std.proofs.lemmas.Bool.{le-leb, leb-true}
use Rattle.std.proofs.lemmas.Int.{ints}
use Rattle.std.proofs.lemmas.Nat.{div-add-mod', div-mul-add, mod-mul-add, mod_below}
use Rattle.std.proofs.Math.Nat.{mul-div_cancel}
use Rattle.xb_model.specs.MfPairs.{pair}
use Rattle.xb_sound.specs.Sines.{pair_sample, sine_at, sine_sample, sine_table}
use Rattle.xb_sound.specs.Sounds.{silence, tone_sound}
use Rattle.xb_sound.proofs.SineTables.{holds_below, sine_at-small}
use Rattle.xb_signal.specs.declared.segment.Segment.{Segment}
use Rattle.xb_signal.specs.declared.segment.Sound.{Sound}
use Rattle.xb_signal.specs.declared.segment.Sound.TheVariants.{Keyed, Written}
use Rattle.xb_signal.specs.declared.moment.Moment.{Moment}
use Rattle.xb_signal.specs.Moments.{moment_after}
use Rattle.xb_chance.specs.Swings.{swing}
use Rattle.xb_chance.specs.Words.{state_after, word_of}
use Rattle.xb_signal.specs.Segments.{signal_from}
use Rattle.xb_signal.specs.Settings.{standard_setting}
use Rattle.xb_signal.specs.SignalLaws.{QuarterIsRound, WavesAreSines, lie_on_circle}
use Rattle.xb_signal.specs.OneSample.{clean_sample, cut, sample_at}
use Rattle.xb_signal.specs.Waves.{mixed, quarter, scaled, wave_at, wave_sample}
use Rattle.xb_signal.proofs.Plain.{plain_sample, plain_sound, plain_tones}
use Rattle.xb_signal.proofs.PlainKeys.{plain_keys_are_written}

same : (x y : ℤ) → unsigned_abs (x -ℤ y) ≤ 0 → x ≡ y
same x y near = omega (arith, ints)

at-hundreds : (p : ℕ) → p < 80 → wave_at (p * 100) ≡ sine_at p
unfolding quarter sine_table
at-hundreds p below =
    same _ _ (leb-true _ _ (holds_below (λ p. leb (unsigned_abs (wave_at (p * 100) -ℤ sine_at p)) 0) 80 0 refl p
    (omega arith) (omega arith)))

-- the place in the period of 8,000 is that of 80, a hundred times
place : (h n : ℕ) → h * 100 * n % 8000 ≡ h * n % 80 * 100
place h n =
    let q : ℕ = h * n / 80 in
    let r : ℕ = h * n % 80 in
    let below : r < 80 = mod_below (h * n) 80 (omega arith) in
    let whole : q * 80 + r ≡ h * n = div-add-mod' (h * n) 80 in
    let e : h * 100 * n ≡ h * n * 100 = omega arith in
    let parts : h * n * 100 ≡ q * 8000 + r * 100 = omega (arith, whole) in
    ap (λ (m : ℕ). m % 8000) (e ∙ parts) ∙ mod-mul-add q 8000 (r * 100) (omega (arith, below))

place-whole : (h n : ℕ) → h * 100 * n / 100 ≡ h * n
place-whole h n =
    let e : h * 100 * n ≡ h * n * 100 = omega arith in
    ap (λ (m : ℕ). m / 100) e ∙ mul-div_cancel (h * n) (omega arith)

pub waves_are_sines : WavesAreSines
waves_are_sines h n =
    ap (λ (p : ℕ). wave_at p) (place h n)
    ∙ at-hundreds (h * n % 80) (mod_below (h * n) 80 (omega arith))
    ∙ sym (ap (λ (m : ℕ). sine_at (m % 80)) (place-whole h n))

pub quarter_is_round : QuarterIsRound
unfolding quarter lie_on_circle
quarter_is_round = refl

cut-small : (x : ℤ) → unsigned_abs x ≤ 20000 → cut x ≡ x
cut-small (pos x) small = rw (le-leb x 32767 (omega arith)) refl
cut-small (negsuc x) small = rw (le-leb x 32767 (omega arith)) refl

-- at an amplitude of 10,000 each sample is that of the table
pub scaled-itself : (x : ℤ) → scaled 10000 x ≡ x
scaled-itself (pos n) =
    let e : 10000 * n + 5000 ≡ n * 10000 + 5000 = omega arith in
    ap (λ (m : ℕ). pos (m / 10000)) e ∙ ap pos (div-mul-add n 10000 5000 (omega arith))
scaled-itself (negsuc n) =
    let e : 10000 * suc n + 5000 ≡ suc n * 10000 + 5000 = omega arith in
    ap (λ (m : ℕ). neg_ℤ (pos (m / 10000))) e
    ∙ ap (λ (m : ℕ). neg_ℤ (pos m)) (div-mul-add (suc n) 10000 5000 (omega arith))

sum-small : (x y : ℤ) → unsigned_abs x ≤ 10000 → unsigned_abs y ≤ 10000 → unsigned_abs (x +ℤ y) ≤ 20000
sum-small x y small_x small_y = omega (arith, ints)

sum-zero : (x y : ℤ) → x +ℤ (y +ℤ pos 0) ≡ x +ℤ y
sum-zero x y = omega (arith, ints)

pub clean-pair : (a b n : ℕ)
    → mixed 10000 10000 (a * 100 ∷ b * 100 ∷ []) n ≡ pair_sample (pair (a * 100) (b * 100)) n
clean-pair a b n =
    let x : ℤ = wave_sample (a * 100) n in
    let y : ℤ = wave_sample (b * 100) n in
    ap (λ (z : ℤ). z +ℤ (scaled 10000 y +ℤ pos 0)) (scaled-itself x)
    ∙ sum-zero x (scaled 10000 y)
    ∙ ap (λ (z : ℤ). x +ℤ z) (scaled-itself y)
    ∙ ap (λ (z : ℤ). z +ℤ y) (waves_are_sines a n)
    ∙ ap (λ (z : ℤ). sine_sample (a * 100) n +ℤ z) (waves_are_sines b n)

pub pair-small : (a b n : ℕ) → unsigned_abs (pair_sample (pair (a * 100) (b * 100)) n) ≤ 20000
pair-small a b n = sum-small (sine_sample (a * 100) n) (sine_sample (b * 100) n) (sine_at-small _) (sine_at-small _)

pair-wave : (a b n : ℕ)
    → plain_sample (Keyed (pair (a * 100) (b * 100))) n ≡ pair_sample (pair (a * 100) (b * 100)) n
pair-wave a b n =
    ap cut (plain_keys_are_written standard_setting 0 (pair (a * 100) (b * 100)) n
    (record { pitch = refl; low = refl; high = refl; hole = refl; start = refl }) ∙ clean-pair a b n)
    ∙ cut-small (pair_sample (pair (a * 100) (b * 100)) n) (pair-small a b n)

pub same-waves : (f g : ℕ → ℤ) → ((n : ℕ) → f n ≡ g n) → (m i : ℕ)
    → map f (range_with_len i m) ≡ map g (range_with_len i m)
same-waves f g is zero i = refl
same-waves f g is (suc m) i =
    ap (λ (x : ℤ). x ∷ map f (range_with_len (i + 1) m)) (is i)
    ∙ ap (λ (xs : List ℤ). g i ∷ xs) (same-waves f g is m (i + 1))

-- two frequencies sound as the tone of a mark
pub pair-sound : (a b ms : ℕ)
    → plain_tones (Keyed (pair (a * 100) (b * 100))) ms ≡ tone_sound (pair (a * 100) (b * 100)) ms
pair-sound a b ms =
    same-waves (λ n. plain_sample (Keyed (pair (a * 100) (b * 100))) n) (λ n. pair_sample (pair (a * 100) (b * 100)) n)
    (pair-wave a b) (ms * 8) 0

zeros : (f : ℕ → ℤ) → ((n : ℕ) → f n ≡ pos 0) → (m i : ℕ) → map f (range_with_len i m) ≡ replicate m (pos 0)
zeros f is zero i = refl
zeros f is (suc m) i =
    ap (λ (x : ℤ). x ∷ map f (range_with_len (i + 1) m)) (is i)
    ∙ ap (λ (xs : List ℤ). pos 0 ∷ xs) (zeros f is m (i + 1))

-- no frequency is silence
pub silent-sound : (ms : ℕ) → plain_tones (Written []) ms ≡ silence ms
silent-sound ms = zeros (λ n. plain_sample (Written []) n) (λ n. refl) (ms * 8) 0

-- without noise the state counts for nothing
no-noise : (state n : ℕ) → swing 0 state n ≡ pos 0
no-noise state n =
    let word = word_of (state_after state (n + 1)) in
    let none : word % 1 ≡ 0 = omega (arith, mod_below word 1 (omega arith)) in
    ap (λ (m : ℕ). pos m -ℤ pos 0) none

plus-none : (x : ℤ) → x +ℤ pos 0 ≡ x
plus-none x = omega (arith, ints)

-- where no place is drawn the state counts for nothing
any-state : (state : ℕ) (sound : Sound) (n : ℕ)
    → clean_sample standard_setting state sound n ≡ clean_sample standard_setting 0 sound n
any-state state (Written tones) n = refl
any-state state (Keyed tones) n = refl

plain-at : (moment : Moment) (sound : Sound) (n : ℕ) → sample_at standard_setting moment sound n ≡ plain_sample sound n
plain-at moment sound n =
    let clean = clean_sample standard_setting 0 sound n in
    ap (λ (x : ℤ). cut ((x +ℤ pos 0) +ℤ swing 0 moment.noise n)) (any-state moment.noise sound n)
    ∙ ap (λ (x : ℤ). cut ((clean +ℤ pos 0) +ℤ x)) (no-noise moment.noise n)
    ∙ ap (λ (x : ℤ). cut (x +ℤ pos 0)) (plus-none clean)
    ∙ ap cut (plus-none clean)

pub plain-signal : (moment : Moment) (segments : List Segment)
    → signal_from standard_setting moment segments ≡ flat_map plain_sound segments
plain-signal moment [] = refl
plain-signal moment (segment ∷ later) =
    let after = moment_after moment (segment.ms * 8) in
    ap (λ (xs : List ℤ). xs ++ signal_from standard_setting after later)
    (same-waves (λ n. sample_at standard_setting moment segment.sound n) (λ n. plain_sample segment.sound n)
    (plain-at moment segment.sound) (segment.ms * 8) 0)
    ∙ ap (λ (xs : List ℤ). plain_sound segment ++ xs) (plain-signal after later)
