-- What is heard of keys by their names.
use Rattle.std.proofs.Common.{◌≡◌, ◌∙◌, ℕ, ◌+◌, ◌*◌, ◌≤◌, List, [], ◌∷◌, ◌++◌, map, sym, ap, append_assoc, arith, refl, ℤ}
use Rattle.std.specs.List.{AllByRecursion, flat_map}
use Rattle.xb_model.specs.declared.key.Key.{Key as PageKey}
use Rattle.xb_model.specs.declared.key.Key.TheVariants.{Digit, Kp, St}
use Rattle.xb_model.specs.declared.mark.Mark.TheVariants.{Trunk}
use Rattle.xb_model.specs.Keyings.{tone}
use Rattle.xb_model.specs.MfPairs.{mf_pair}
use Rattle.xb_sound.specs.declared.cadence.Cadence.{Cadence}
use Rattle.xb_sound.specs.Cadences.{IsSetApart, tone_ms}
use Rattle.xb_sound.specs.HeardKeys.{AreKeyed, IsKey, frequencies_of, keys_heard, keys_of}
use Rattle.xb_sound.specs.Receiver.{correlation, cosine_wave, heard_after, loud_frequencies, sine_wave}
use Rattle.xb_sound.specs.Sines.{pair_sample, sine_table}
use Rattle.xb_sound.specs.Sounds.{silence, sound_of, tone_sound}
use Rattle.xb_sound.proofs.HeardMarks.{keys_are_heard}
use Rattle.xb_sound.proofs.Insides.{heard_after-tone}
use Rattle.xb_sound.proofs.KeyWaves.{IsKeyWave, each_digit, key_wave, wave_of}
use Rattle.xb_sound.proofs.Silences.{heard_after-silence}
use Rattle.xb_signal.specs.declared.key_name.Name.{Name}
use Rattle.xb_signal.specs.declared.key_name.Name.TheVariants.{Key, Kp2, StPrime, StTwoPrimes, StThreePrimes}
use Rattle.xb_signal.specs.Names.{name_ms, pair_of}
use Rattle.xb_signal.specs.Moments.{start}
use Rattle.xb_signal.specs.Segments.{silent}
use Rattle.xb_signal.specs.declared.segment.Segment.{Segment}
use Rattle.xb_signal.specs.declared.segment.Sound.TheVariants.{Keyed, Written}
use Rattle.xb_signal.specs.SignalLaws.{IsName, KeysAreHeard, KeysSoundAsMarks, NamesAreHeard, names_of}
use Rattle.xb_signal.specs.Words.{key_segments}
use Rattle.xb_signal.proofs.Plain.{plain_sound, plain_tones}
use Rattle.xb_signal.proofs.Sines.{pair-sound, plain-signal, silent-sound}

abbrev plain_of : List Segment → List ℤ
plain_of segments = flat_map plain_sound segments

-- the two frequencies of a name sound as the tone of a mark
abbrev SoundsAsTone : Name → Type 0
SoundsAsTone name =
    (ms : ℕ) → plain_tones (Keyed (pair_of name)) ms ≡ tone_sound (pair_of name) ms

sounds : (name : Name) → IsName name → SoundsAsTone name
sounds (Key (Digit d)) is =
    each_digit (λ d. SoundsAsTone (Key (Digit d)))
    (pair-sound 13 15) (pair-sound 7 9) (pair-sound 7 11) (pair-sound 9 11)
    (pair-sound 7 13) (pair-sound 9 13) (pair-sound 11 13) (pair-sound 7 15) (pair-sound 9 15) (pair-sound 11 15) d is
sounds (Key Kp) is = pair-sound 11 17
sounds (Key St) is = pair-sound 15 17
sounds Kp2 is = pair-sound 13 17
sounds StPrime is = pair-sound 9 17
sounds StTwoPrimes is = pair-sound 13 17
sounds StThreePrimes is = pair-sound 7 17

-- the sound of a key, and of what comes after it
key-sound : (cadence : Cadence) (name : Name) → IsName name → (names : List Name)
    → plain_of (flat_map (key_segments cadence) (name ∷ names))
    ≡ tone_sound (pair_of name) (name_ms cadence name)
    ++ (silence cadence.gap_ms ++ plain_of (flat_map (key_segments cadence) names))
key-sound cadence name is names =
    let rest = plain_of (flat_map (key_segments cadence) names) in
    ap (λ (xs : List ℤ). xs ++ (plain_tones (Written []) cadence.gap_ms ++ rest)) (sounds name is (name_ms cadence name))
    ∙ ap (λ (xs : List ℤ). tone_sound (pair_of name) (name_ms cadence name) ++ (xs ++ rest))
    (silent-sound cadence.gap_ms)

keys-sound : (cadence : Cadence) (keys : List PageKey) → AllByRecursion IsKey keys
    → plain_of (flat_map (key_segments cadence) (names_of keys)) ≡ sound_of cadence (map tone keys)
keys-sound cadence [] all = refl
keys-sound cadence (key ∷ keys) all =
    let first = tone_sound (mf_pair key) (tone_ms cadence key) in
    key-sound cadence (Key key) all.0 (names_of keys)
    ∙ ap (λ (xs : List ℤ). first ++ (silence cadence.gap_ms ++ xs)) (keys-sound cadence keys all.1)
    ∙ sym (append_assoc first (silence cadence.gap_ms) (sound_of cadence (map tone keys)))

pub keys_sound_as_marks : KeysSoundAsMarks
keys_sound_as_marks cadence trunk keys all =
    let rest = plain_of (flat_map (key_segments cadence) (names_of keys)) in
    plain-signal (start 0) (silent cadence.lead_ms ∷ flat_map (key_segments cadence) (names_of keys))
    ∙ ap (λ (xs : List ℤ). xs ++ rest) (silent-sound cadence.lead_ms)
    ∙ ap (λ (xs : List ℤ). silence cadence.lead_ms ++ xs) (keys-sound cadence keys all)

are-keyed : (keys : List PageKey) → AllByRecursion IsKey keys → AreKeyed (map tone keys)
are-keyed [] all = tt
are-keyed (key ∷ keys) all = ((all.0, refl), are-keyed keys all.1)

keys-of : (keys : List PageKey) → keys_of (map tone keys) ≡ keys
keys-of [] = refl
keys-of (key ∷ keys) = ap (λ (more : List PageKey). key ∷ more) (keys-of keys)

pub named_keys_are_heard : KeysAreHeard
named_keys_are_heard cadence keys apart all =
    ap keys_heard (keys_sound_as_marks cadence 0 keys all)
    ∙ (keys_are_heard cadence (Trunk 0 ∷ map tone keys) apart (tt, are-keyed keys all)).keys
    ∙ keys-of keys

name_wave : (name : Name) → IsName name → IsKeyWave (pair_of name)
unfolding sine_table sine_wave cosine_wave correlation loud_frequencies
name_wave (Key key) is = key_wave key is
name_wave Kp2 is = wave_of 13 17 refl refl refl
name_wave StPrime is = wave_of 9 17 refl refl refl
name_wave StTwoPrimes is = wave_of 13 17 refl refl refl
name_wave StThreePrimes is = wave_of 7 17 refl refl refl

-- a tone that is set apart has more than 80 samples
name_is_long : (cadence : Cadence) → IsSetApart cadence → (name : Name) → 81 ≤ name_ms cadence name * 8
name_is_long cadence apart (Key (Digit d)) = omega (arith, apart.key)
name_is_long cadence apart (Key Kp) = omega (arith, apart.kp)
name_is_long cadence apart (Key St) = omega (arith, apart.key)
name_is_long cadence apart Kp2 = omega (arith, apart.kp)
name_is_long cadence apart StPrime = omega (arith, apart.key)
name_is_long cadence apart StTwoPrimes = omega (arith, apart.key)
name_is_long cadence apart StThreePrimes = omega (arith, apart.key)

abbrev heard_names : List Name → List (List ℕ)
heard_names names = map (λ name. frequencies_of (pair_of name)) names

-- after silence, however long it was
after_silence : (cadence : Cadence) → IsSetApart cadence → (names : List Name) → AllByRecursion IsName names
    → (silent : ℕ) → 80 ≤ silent
    → heard_after silent (plain_of (flat_map (key_segments cadence) names)) ≡ heard_names names
unfolding heard_after
after_silence cadence apart [] all silent enough = refl
after_silence cadence apart (name ∷ names) all silent enough =
    let p = pair_of name in
    let wave = name_wave name all.0 in
    let rest = plain_of (flat_map (key_segments cadence) names) in
    let once = heard_after-tone (λ n. pair_sample p n) wave.wave wave.start (name_ms cadence name * 8)
    (name_is_long cadence apart name) silent enough (silence cadence.gap_ms ++ rest) in
    let gap : 80 ≤ once.left + cadence.gap_ms * 8 = omega (arith, apart.gap) in
    ap (λ (xs : List ℤ). heard_after silent xs) (key-sound cadence name all.0 names)
    ∙ once.same
    ∙ ap (λ (what : List ℕ). what ∷ heard_after once.left (silence cadence.gap_ms ++ rest)) wave.loud
    ∙ ap (λ (more : List (List ℕ)). frequencies_of p ∷ more)
    (heard_after-silence (cadence.gap_ms * 8) once.left rest
    ∙ after_silence cadence apart names all.1 (once.left + cadence.gap_ms * 8) gap)

pub names_are_heard : NamesAreHeard
names_are_heard cadence names apart all =
    let rest = plain_of (flat_map (key_segments cadence) names) in
    ap (λ (xs : List ℤ). heard_after 80 xs)
    (plain-signal (start 0) (silent cadence.lead_ms ∷ flat_map (key_segments cadence) names))
    ∙ ap (λ (xs : List ℤ). heard_after 80 (xs ++ rest)) (silent-sound cadence.lead_ms)
    ∙ heard_after-silence (cadence.lead_ms * 8) 80 rest
    ∙ after_silence cadence apart names all (80 + cadence.lead_ms * 8) (omega arith)
