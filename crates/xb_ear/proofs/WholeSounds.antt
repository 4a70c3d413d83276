-- The laws of what is heard.
use Rattle.std.proofs.Common.{◌≡◌, ◌∙◌, ℕ, ◌+◌, ◌-◌, ◌*◌, ◌≤◌, List, [], ◌∷◌, ◌++◌, map, fold, length, sym, ap, subst, arith, refl, ℤ, ◌-ℤ◌, unsigned_abs, Option, None, inl, append_assoc, append-nil, length-append, zero-add}
use Rattle.std.specs.List.{AllByRecursion, flat_map, range_with_len}
use Rattle.std.proofs.lemmas.Int.{ints}
use Rattle.xb_model.specs.declared.key.Key.{Key}
use Rattle.xb_model.specs.declared.key.Key.TheVariants.{Digit, Kp, St}
use Rattle.xb_model.specs.declared.key.Tone.{Tone as Pair}
use Rattle.xb_model.specs.declared.mark.Mark.{Mark}
use Rattle.xb_model.specs.declared.mark.Mark.TheVariants.{Trunk, Tone, Refused}
use Rattle.xb_model.specs.Keyings.{keying, tone}
use Rattle.xb_model.specs.Image.{image_from}
use Rattle.xb_sound.specs.HeardKeys.{AreKeyed, frequencies_of, keys_of, keys_with}
use Rattle.xb_sound.specs.declared.cadence.Cadence.{Cadence}
use Rattle.xb_sound.specs.Cadences.{tone_ms}
use Rattle.xb_sound.specs.Sounds.{silence, sound_of, tone_sound}
use Rattle.xb_sound.proofs.HeardMarks.{digits_are_keyed}
use Rattle.xb_sound.proofs.KeyWaves.{keys_with-pair}
use Rattle.xb_ear.specs.declared.sight.Sight.{Sight}
use Rattle.xb_ear.specs.Disturbed.{AreWithin, IsNear, bounded}
use Rattle.xb_ear.specs.Ears.{seen_at, sights, windows_in}
use Rattle.xb_ear.specs.HeardKeys.{CleanKeysAreHeard, DisturbedKeyingsAreHeard, DisturbedKeysAreHeard, HearsSoFar, IsHearable, IsHearableUnlike, IsHeardAs, MOST_NOISE, MOST_NOISE_IN_TONES, NoisyKeysAreHeard, SilenceIsSilent, UnlikeKeysAreHeard, disturbable, pairs_in, tones_of}
use Rattle.xb_ear.specs.Hearings.{hearer, silent}
use Rattle.xb_ear.specs.Receivers.{keys_of_sound}
use Rattle.xb_ear.proofs.Fading.{sees-silence}
use Rattle.xb_ear.proofs.HeardKeys.{AreTold, ShowKeys, disturbed-show, outcome, told-by-gaps, told-by-pairs}
use Rattle.xb_ear.proofs.SoonLow.{sound-low}
use Rattle.xb_ear.proofs.Received.{nothing-heard, sound-pairs}
use Rattle.xb_ear.proofs.Runs.{stays}
use Rattle.xb_ear.proofs.Segments.{AreMatched, Within, all-in-range, between, matched-within, part_of, range-split, sees, sees-part}
use Rattle.xb_ear.proofs.Shown.{still}
use Rattle.xb_ear.proofs.Steps.{known}
use Rattle.xb_model.proofs.Images.{image_from-append}
use Rattle.xb_ear.proofs.Windows.{sights-early}

abbrev keys_with_pair : Pair → List Key
keys_with_pair p = keys_with (frequencies_of p)

-- each pair has one key
keys-of-tones : (marks : List Mark) → AreKeyed marks → flat_map keys_with_pair (tones_of marks) ≡ keys_of marks
keys-of-tones [] keyed = refl
keys-of-tones (Trunk t ∷ marks) keyed = keys-of-tones marks keyed.1
keys-of-tones (Tone key p ∷ marks) keyed =
    let one : keys_with_pair p ≡ key ∷ [] =
    ap (λ (q : Pair). keys_with_pair q) keyed.0.1 ∙ keys_with-pair key keyed.0.0 in
    ap (λ (keys : List Key). keys ++ flat_map keys_with_pair (tones_of marks)) one
    ∙ ap (λ (keys : List Key). key ∷ keys) (keys-of-tones marks keyed.1)
keys-of-tones (Refused reason count ∷ marks) keyed = keys-of-tones marks keyed.1

-- where each gap is silence, or stands between keys that differ
pub heard-as : (R : ℕ → List (ℤ × ℕ) → List ℤ → Type 0) → ShowKeys R → (cadence : Cadence) (marks : List Mark) (samples : List ℤ)
    → IsHearableUnlike cadence → AreKeyed marks → AreTold (cadence.gap_ms * 8) None (tones_of marks)
    → AreMatched R (disturbable cadence marks) samples → IsHeardAs samples marks
heard-as R show cadence marks samples lawful keyed told matched =
    let low = sound-low R show cadence lawful marks keyed samples matched in
    let pairs : pairs_in (keys_of_sound samples) ≡ tones_of marks =
    sound-pairs samples ∙ outcome R show cadence lawful marks keyed told samples low matched in
    record { pairs = pairs; keys = ap (λ (ps : List Pair). flat_map keys_with_pair ps) pairs ∙ keys-of-tones marks keyed }

-- where each gap is long enough
pub heard-after-gaps : (R : ℕ → List (ℤ × ℕ) → List ℤ → Type 0) → ShowKeys R → (cadence : Cadence) (marks : List Mark)
    (samples : List ℤ) → IsHearable cadence → AreKeyed marks → AreMatched R (disturbable cadence marks) samples
    → IsHeardAs samples marks
heard-after-gaps R show cadence marks samples lawful keyed matched =
    let shorter : IsHearableUnlike cadence =
    record { kp = lawful.kp; key = lawful.key; gap = omega (arith, lawful.gap) } in
    heard-as R show cadence marks samples shorter keyed
    (told-by-gaps (cadence.gap_ms * 8) (omega (arith, lawful.gap)) None (tones_of marks)) matched

pub disturbed_keys_are_heard : DisturbedKeysAreHeard
disturbed_keys_are_heard cadence marks samples lawful keyed within =
    heard-after-gaps Within disturbed-show cadence marks samples lawful keyed
    (matched-within (disturbable cadence marks) samples within)

pub unlike_keys_are_heard : UnlikeKeysAreHeard
unlike_keys_are_heard cadence marks samples lawful keyed unlike within =
    heard-as Within disturbed-show cadence marks samples lawful keyed
    (told-by-pairs (cadence.gap_ms * 8) None (tones_of marks) unlike)
    (matched-within (disturbable cadence marks) samples within)

keys-of-digits : (digits : List ℕ)
    → keys_of (map (λ d. tone (Digit d)) digits ++ tone St ∷ []) ≡ map (λ d. Digit d) digits ++ St ∷ []
keys-of-digits [] = refl
keys-of-digits (d ∷ digits) = ap (λ (keys : List Key). Digit d ∷ keys) (keys-of-digits digits)

pub disturbed_keyings_are_heard : DisturbedKeyingsAreHeard
disturbed_keyings_are_heard cadence trunk digits samples lawful below within =
    (disturbed_keys_are_heard cadence (keying trunk digits) samples lawful
    (tt, ((tt, refl), digits_are_keyed digits below)) within).keys
    ∙ ap (λ (keys : List Key). Kp ∷ keys) (keys-of-digits digits)

-- what is near the sound is within the bounds of each sample, which are no closer
near-within : (n m : ℕ) → n ≤ m → (xs : List ℤ) (rest : List (ℤ × ℕ)) (more ys : List ℤ) → IsNear n (xs ++ more) ys
    → ((zs : List ℤ) → IsNear n more zs → AreWithin rest zs) → AreWithin (bounded m xs ++ rest) ys
near-within n m most [] rest more ys near later = later ys near
near-within n m most (x ∷ xs) rest more [] near later = absurd near
near-within n m most (x ∷ xs) rest more (y ∷ ys) near later =
    let apart : unsigned_abs (y -ℤ x) ≤ n = near.0 in
    (omega (arith, apart, most), near-within n m most xs rest more ys near.1 later)

sound-within : (cadence : Cadence) (marks : List Mark) (ys : List ℤ) → IsNear MOST_NOISE (sound_of cadence marks) ys
    → AreWithin (disturbable cadence marks) ys
sound-within cadence [] [] near = tt
sound-within cadence [] (y ∷ ys) near = absurd near
sound-within cadence (Trunk t ∷ marks) ys near =
    near-within MOST_NOISE MOST_NOISE (omega arith) (silence cadence.lead_ms) (disturbable cadence marks) (sound_of cadence marks)
    ys near (λ zs later. sound-within cadence marks zs later)
sound-within cadence (Refused reason count ∷ marks) ys near = sound-within cadence marks ys near
sound-within cadence (Tone key p ∷ marks) ys near =
    let tone = tone_sound p (tone_ms cadence key) in
    let pause = silence cadence.gap_ms in
    let more = sound_of cadence marks in
    let rest = disturbable cadence marks in
    subst (λ (xs : List (ℤ × ℕ)). AreWithin xs ys)
    (sym (append_assoc (bounded MOST_NOISE_IN_TONES tone) (bounded MOST_NOISE pause) rest))
    (near-within MOST_NOISE MOST_NOISE_IN_TONES (omega arith) tone (bounded MOST_NOISE pause ++ rest) (pause ++ more) ys
    (subst (λ (xs : List ℤ). IsNear MOST_NOISE xs ys) (append_assoc tone pause more) near)
    (λ zs later. near-within MOST_NOISE MOST_NOISE (omega arith) pause rest more zs later
    (λ us last. sound-within cadence marks us last)))

pub noisy_keys_are_heard : NoisyKeysAreHeard
noisy_keys_are_heard cadence marks samples lawful keyed near =
    disturbed_keys_are_heard cadence marks samples lawful keyed (sound-within cadence marks samples near)

near-itself : (n : ℕ) (xs : List ℤ) → IsNear n xs xs
near-itself n [] = tt
near-itself n (x ∷ xs) = (omega (arith, ints), near-itself n xs)

pub clean_keys_are_heard : CleanKeysAreHeard
clean_keys_are_heard cadence marks lawful keyed =
    noisy_keys_are_heard cadence marks (sound_of cadence marks) lawful keyed (near-itself MOST_NOISE (sound_of cadence marks))

pub quiet-within : (samples : List ℤ) → AllByRecursion (λ x. unsigned_abs x ≤ MOST_NOISE) samples → (i : ℕ)
    → AreWithin (map (λ k. (still k, MOST_NOISE)) (range_with_len i (length samples))) samples
quiet-within [] small i = tt
quiet-within (x ∷ samples) small i =
    let this : unsigned_abs x ≤ MOST_NOISE = small.0 in
    (omega (arith, ints, this), quiet-within samples small.1 (i + 1))

pub silence_is_silent : SilenceIsSilent
silence_is_silent samples small =
    let n : ℕ = length samples in
    let within : AreWithin ([] ++ (part_of still MOST_NOISE n ++ [])) samples =
    subst (λ (xs : List (ℤ × ℕ)). AreWithin xs samples) (sym (append-nil (part_of still MOST_NOISE n)))
    (quiet-within samples small 0) in
    let all = all-in-range (sees samples) None (windows_in 0) (windows_in n - windows_in 0)
    (λ w low high. sees-silence samples w
    (sees-part Within still MOST_NOISE None disturbed-show.none [] [] samples n w
    (matched-within (part_of still MOST_NOISE n ++ []) samples within) (omega arith) (omega (arith, high))).pair) in
    nothing-heard samples
    (stays None (between (sees samples) 0 n) all (known silent) (record { sees = refl; sounds = refl; near = inl refl }))

-- what is heard of more samples is what was heard, and more
pub hears_so_far : HearsSoFar
hears_so_far earlier later =
    let all = earlier ++ later in
    let f = seen_at all in
    let n : ℕ = windows_in (length earlier) in
    let m : ℕ = windows_in (length all) - n in
    let more : windows_in (length all) ≡ n + m = omega (arith, length-append earlier later) in
    let split : sights all ≡ sights earlier ++ map f (range_with_len n m) =
    range-split f 0 n m (windows_in (length all)) more
    ∙ ap (λ (i : ℕ). map f (range_with_len 0 n) ++ map f (range_with_len i m)) (zero-add n)
    ∙ ap (λ (xs : List (Option Sight)). xs ++ map f (range_with_len n m)) (sights-early earlier later) in (
      image_from hearer (fold hearer.next hearer.start (sights earlier)) (map f (range_with_len n m)),
      ap (λ (xs : List (Option Sight)). image_from hearer hearer.start xs) split
          ∙ image_from-append hearer hearer.start (sights earlier) (map f (range_with_len n m)),
    )
