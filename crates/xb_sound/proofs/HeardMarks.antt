-- What is heard of marks.
use Rattle.std.proofs.Common.{◌≡◌, ◌∙◌, ℕ, ◌+◌, ◌*◌, ◌<◌, ◌≤◌, List, [], ◌∷◌, ◌++◌, map, sym, ap, subst, append_assoc, arith, refl, ℤ}
use Rattle.std.specs.List.{AllByRecursion, flat_map}
use Rattle.xb_model.specs.declared.digit.TheConstants.{DIGITS}
use Rattle.xb_model.specs.declared.key.Key.{Key}
use Rattle.xb_model.specs.declared.key.Key.TheVariants.{Digit, Kp, St}
use Rattle.xb_model.specs.declared.key.Tone.{Tone as Pair}
use Rattle.xb_model.specs.declared.mark.Mark.{Mark}
use Rattle.xb_model.specs.declared.mark.Mark.TheVariants.{Trunk, Tone, Refused}
use Rattle.xb_model.specs.Keyings.{keying, tone}
use Rattle.xb_sound.specs.declared.cadence.Cadence.{Cadence}
use Rattle.xb_sound.specs.Cadences.{IsSetApart, tone_ms}
use Rattle.xb_sound.specs.HeardKeys.{AreKeyed, KeyingsAreHeard, KeysAreHeard, frequencies_of, keys_of, keys_with, pairs_of}
use Rattle.xb_sound.specs.Receiver.{heard, heard_after}
use Rattle.xb_sound.specs.Sines.{pair_sample}
use Rattle.xb_sound.specs.Sounds.{silence, sound_of, tone_sound}
use Rattle.xb_sound.proofs.Insides.{heard_after-tone}
use Rattle.xb_sound.proofs.KeyWaves.{key_wave, keys_with-pair, IsKeyWave}
use Rattle.xb_sound.proofs.Silences.{heard_after-silence}

-- a tone that is set apart has more than 80 samples
tone_is_long : (cadence : Cadence) → IsSetApart cadence → (key : Key) → 81 ≤ tone_ms cadence key * 8
tone_is_long cadence apart (Digit d) = omega (arith, apart.key)
tone_is_long cadence apart Kp = omega (arith, apart.kp)
tone_is_long cadence apart St = omega (arith, apart.key)

-- after a tone and the silence behind it
after_tone : (cadence : Cadence) → IsSetApart cadence → (key : Key) (pair : Pair) → IsKeyWave pair
    → (silent : ℕ) → 80 ≤ silent → (xs : List ℤ) (later : List (List ℕ))
    → ((z : ℕ) → 80 ≤ z → heard_after z xs ≡ later)
    → heard_after silent ((tone_sound pair (tone_ms cadence key) ++ silence cadence.gap_ms) ++ xs)
    ≡ frequencies_of pair ∷ later
after_tone cadence apart key pair wave silent enough xs later rest =
    let n : ℕ = tone_ms cadence key * 8 in
    let once = heard_after-tone (λ n. pair_sample pair n) wave.wave wave.start n (tone_is_long cadence apart key)
    silent enough (silence cadence.gap_ms ++ xs) in
    let gap : 80 ≤ once.left + cadence.gap_ms * 8 = omega (arith, apart.gap) in
    ap (λ (samples : List ℤ). heard_after silent samples)
    (append_assoc (tone_sound pair (tone_ms cadence key)) (silence cadence.gap_ms) xs)
    ∙ once.same
    ∙ ap (λ (what : List ℕ). what ∷ heard_after once.left (silence cadence.gap_ms ++ xs)) wave.loud
    ∙ ap (λ (more : List (List ℕ)). frequencies_of pair ∷ more)
    (heard_after-silence (cadence.gap_ms * 8) once.left xs ∙ rest (once.left + cadence.gap_ms * 8) gap)

-- the pairs of marks are heard, and then what comes after them
pub marks-heard : (cadence : Cadence) → IsSetApart cadence → (marks : List Mark) → AreKeyed marks
    → (silent : ℕ) → 80 ≤ silent → (xs : List ℤ) (later : List (List ℕ))
    → ((z : ℕ) → 80 ≤ z → heard_after z xs ≡ later)
    → heard_after silent (sound_of cadence marks ++ xs) ≡ pairs_of marks ++ later
unfolding heard_after
marks-heard cadence apart [] keyed silent enough xs later rest = rest silent enough
marks-heard cadence apart (Trunk t ∷ marks) keyed silent enough xs later rest =
    ap (λ (samples : List ℤ). heard_after silent samples)
    (append_assoc (silence cadence.lead_ms) (sound_of cadence marks) xs)
    ∙ heard_after-silence (cadence.lead_ms * 8) silent (sound_of cadence marks ++ xs)
    ∙ marks-heard cadence apart marks keyed.1 (silent + cadence.lead_ms * 8) (omega arith) xs later rest
marks-heard cadence apart (Tone key pair ∷ marks) keyed silent enough xs later rest =
    let wave : IsKeyWave pair = subst IsKeyWave (sym keyed.0.1) (key_wave key keyed.0.0) in
    let tone = tone_sound pair (tone_ms cadence key) ++ silence cadence.gap_ms in
    ap (λ (samples : List ℤ). heard_after silent samples) (append_assoc tone (sound_of cadence marks) xs)
    ∙ after_tone cadence apart key pair wave silent enough (sound_of cadence marks ++ xs) (pairs_of marks ++ later)
    (λ z h. marks-heard cadence apart marks keyed.1 z h xs later rest)
marks-heard cadence apart (Refused reason count ∷ marks) keyed silent enough xs later rest =
    marks-heard cadence apart marks keyed.1 silent enough xs later rest

-- after silence, however long it was, the pairs of the marks are heard
pairs_are_heard : (cadence : Cadence) → IsSetApart cadence → (marks : List Mark) → AreKeyed marks
    → (silent : ℕ) → 80 ≤ silent → heard_after silent (sound_of cadence marks) ≡ pairs_of marks
unfolding heard_after
pairs_are_heard cadence apart [] keyed silent enough = refl
pairs_are_heard cadence apart (Trunk t ∷ marks) keyed silent enough =
    heard_after-silence (cadence.lead_ms * 8) silent (sound_of cadence marks)
    ∙ pairs_are_heard cadence apart marks keyed.1 (silent + cadence.lead_ms * 8) (omega arith)
pairs_are_heard cadence apart (Tone key pair ∷ marks) keyed silent enough =
    let wave : IsKeyWave pair = subst IsKeyWave (sym keyed.0.1) (key_wave key keyed.0.0) in
    after_tone cadence apart key pair wave silent enough (sound_of cadence marks) (pairs_of marks)
    (λ z h. pairs_are_heard cadence apart marks keyed.1 z h)
pairs_are_heard cadence apart (Refused reason count ∷ marks) keyed silent enough =
    pairs_are_heard cadence apart marks keyed.1 silent enough

-- each pair has one key
keys_of_pairs : (marks : List Mark) → AreKeyed marks → flat_map keys_with (pairs_of marks) ≡ keys_of marks
keys_of_pairs [] keyed = refl
keys_of_pairs (Trunk t ∷ marks) keyed = keys_of_pairs marks keyed.1
keys_of_pairs (Tone key pair ∷ marks) keyed =
    let one : keys_with (frequencies_of pair) ≡ key ∷ [] =
    ap (λ (p : Pair). keys_with (frequencies_of p)) keyed.0.1 ∙ keys_with-pair key keyed.0.0 in
    ap (λ (keys : List Key). keys ++ flat_map keys_with (pairs_of marks)) one
    ∙ ap (λ (keys : List Key). key ∷ keys) (keys_of_pairs marks keyed.1)
keys_of_pairs (Refused reason count ∷ marks) keyed = keys_of_pairs marks keyed.1

pub keys_are_heard : KeysAreHeard
keys_are_heard cadence marks apart keyed =
    let pairs : heard (sound_of cadence marks) ≡ pairs_of marks =
    pairs_are_heard cadence apart marks keyed 80 (omega arith) in
    record {
      pairs = pairs;
      keys = ap (λ (all : List (List ℕ)). flat_map keys_with all) pairs ∙ keys_of_pairs marks keyed;
    }

-- the marks of a keying
pub digits_are_keyed : (digits : List ℕ) → AllByRecursion (λ d. d < DIGITS) digits
    → AreKeyed (map (λ d. tone (Digit d)) digits ++ tone St ∷ [])
digits_are_keyed [] below = ((tt, refl), tt)
digits_are_keyed (d ∷ digits) below = ((below.0, refl), digits_are_keyed digits below.1)

keys_of_digits : (digits : List ℕ)
    → keys_of (map (λ d. tone (Digit d)) digits ++ tone St ∷ []) ≡ map (λ d. Digit d) digits ++ St ∷ []
keys_of_digits [] = refl
keys_of_digits (d ∷ digits) = ap (λ (keys : List Key). Digit d ∷ keys) (keys_of_digits digits)

pub keyings_are_heard : KeyingsAreHeard
keyings_are_heard cadence trunk digits apart below =
    (keys_are_heard cadence (keying trunk digits) apart (tt, ((tt, refl), digits_are_keyed digits below))).keys
    ∙ ap (λ (keys : List Key). Kp ∷ keys) (keys_of_digits digits)
