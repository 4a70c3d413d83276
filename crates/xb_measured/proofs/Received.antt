-- The keys of a sound with their tones, one sample after the other.
use Rattle.std.proofs.Common.{◌≡◌, ◌∙◌, ℕ, List, [], ◌∷◌, ◌++◌, drop, length, map, sym, ap, ap₂, subst, refl, append_assoc, append-nil, ℤ, Option, Some, None}
use Rattle.std.proofs.Math.Seq.{drop-append_seam}
use Rattle.std.proofs.lemmas.List.{map-append}
use Rattle.xb_model.specs.declared.key.Tone.{Tone as Pair}
use Rattle.xb_ear.specs.declared.hearing.Heard.{Heard as HeardKey}
use Rattle.xb_ear.specs.Ears.{heard, hearing_after}
use Rattle.xb_ear.specs.HeardKeys.{pairs_in as key_pairs}
use Rattle.xb_ear.specs.Hearings.{listed as listed_key}
use Rattle.xb_ear.specs.Receivers.{HasReceived as HasEarReceived, keys_of_sound as ear_keys}
use Rattle.xb_ear.proofs.WholeSounds.{hears_so_far}
use Rattle.xb_measured.specs.declared.heard.Heard.{Heard}
use Rattle.xb_measured.specs.declared.heard.Onsets.{Onsets}
use Rattle.xb_measured.specs.Onsets.{onsets_of}
use Rattle.xb_measured.specs.Blanks.{blank_in}
use Rattle.xb_measured.specs.Stretches.{heard_at, places_of, strongest}
use Rattle.xb_measured.specs.Tapes.{IsTapeOf, gone_of, heard_in, kept_of}
use Rattle.xb_measured.specs.Receivers.{HasReceived, Receiving, ended_by, ended_in, ended_keys, keys_of_sound, listed, pairs_in}

pub ended-more : (a xs ys : List ℤ) → ended_in a (xs ++ ys) ≡ ended_in a xs ++ ended_in (a ++ xs) ys
unfolding ended_in
ended-more a [] ys = ap (λ (zs : List ℤ). ended_in zs ys) (sym (append-nil a))
ended-more a (x ∷ xs) ys =
    let first = map (heard_in (a ++ x ∷ [])) (ended_by a x) in
    let rest = ended_in (a ++ x ∷ []) xs in
    ap (λ (ks : List Heard). first ++ ks) (ended-more (a ++ x ∷ []) xs ys)
    ∙ sym (append_assoc first rest (ended_in ((a ++ x ∷ []) ++ xs) ys))
    ∙ ap (λ (zs : List ℤ). (first ++ rest) ++ ended_in zs ys) (append_assoc a (x ∷ []) xs)

-- one sample more
ended-one : (samples : List ℤ) (x : ℤ) → ended_keys (samples ++ x ∷ [])
    ≡ ended_keys samples ++ map (heard_in (samples ++ x ∷ [])) (ended_by samples x)
unfolding ended_in
ended-one samples x =
    ended-more [] samples (x ∷ [])
    ∙ ap (λ (ks : List Heard). ended_keys samples ++ ks)
    (append-nil (map (heard_in (samples ++ x ∷ [])) (ended_by samples x)))

-- the keys that it ends are those that the ear gives
ended-are : (samples : List ℤ) (x : ℤ) (keys : List HeardKey) → heard (samples ++ x ∷ []) ≡ heard samples ++ keys
    → ended_by samples x ≡ keys
ended-are samples x keys is =
    ap (λ (ks : List HeardKey). drop (length (heard samples)) ks) is ∙ drop-append_seam (heard samples) keys

pub received-more : (old new : Receiving) (samples : List ℤ) (keys : List Heard) (x : ℤ) (key : Option HeardKey)
    (result : Option Heard) → HasReceived old samples keys
    → HasEarReceived new.ear (samples ++ x ∷ []) (heard samples ++ listed_key key) → IsTapeOf new.tape (samples ++ x ∷ [])
    → listed result ≡ map (heard_in (samples ++ x ∷ [])) (listed_key key)
    → HasReceived new (samples ++ x ∷ []) (keys ++ listed result)
received-more old new samples keys x key result has ear tape is =
    let by : ended_by samples x ≡ listed_key key = ended-are samples x (listed_key key) (sym ear.given) in record {
      ear = subst (λ (ks : List HeardKey). HasEarReceived new.ear (samples ++ x ∷ []) ks) ear.given ear;
      tape = tape;
      given = ap₂ (λ (ks ls : List Heard). ks ++ ls) has.given
          (is ∙ ap (λ (ks : List HeardKey). map (heard_in (samples ++ x ∷ [])) ks) (sym by))
          ∙ sym (ended-one samples x);
    }

-- the key that sounds at the end
pub received-last : (receiver : Receiving) (samples : List ℤ) (keys : List Heard) (key : Option HeardKey)
    (result : Option Heard) → HasReceived receiver samples keys → heard samples ++ listed_key key ≡ ear_keys samples
    → listed result ≡ map (heard_in samples) (listed_key key) → keys ++ listed result ≡ keys_of_sound samples
received-last receiver samples keys key result has ends is =
    let last : listed_key key ≡ listed_key (hearing_after samples).sounding =
    sym (drop-append_seam (heard samples) (listed_key key))
    ∙ ap (λ (ks : List HeardKey). drop (length (heard samples)) ks) ends
    ∙ drop-append_seam (heard samples) (listed_key (hearing_after samples).sounding) in
    ap₂ (λ (ks ls : List Heard). ks ++ ls) has.given
    (is ∙ ap (λ (ks : List HeardKey). map (heard_in samples) ks) last)

-- a key that is measured, and none
pub one-measured : (samples : List ℤ) (key : HeardKey) (result : Heard) → result ≡ heard_in samples key
    → listed (Some result) ≡ map (heard_in samples) (listed_key (Some key))
one-measured samples key result is = ap (λ (k : Heard). k ∷ []) is

-- keys have the same pairs when they are measured
same-sight : (kept : List ℤ) (key : HeardKey) (onsets : Option Onsets) (blank : ℕ) (place : Option ℕ)
    → (heard_at kept key onsets blank place).sight.pair ≡ key.sight.pair
same-sight kept key onsets blank None = refl
same-sight kept key onsets blank (Some place) = refl

same-pairs : (samples : List ℤ) (keys : List HeardKey) → pairs_in (map (heard_in samples) keys) ≡ key_pairs keys
same-pairs samples [] = refl
same-pairs samples (key ∷ keys) =
    ap₂ (λ (p : Pair) (ps : List Pair). p ∷ ps)
    (same-sight (kept_of samples) key (onsets_of (kept_of samples) (gone_of samples) key) (blank_in samples key)
    (strongest (kept_of samples) None (places_of (kept_of samples) (gone_of samples) key)))
    (same-pairs samples keys)

pairs-more : (a later : List ℤ) → key_pairs (heard a) ++ pairs_in (ended_in a later) ≡ key_pairs (heard (a ++ later))
unfolding ended_in
pairs-more a [] =
    append-nil (key_pairs (heard a)) ∙ ap (λ (zs : List ℤ). key_pairs (heard zs)) (sym (append-nil a))
pairs-more a (x ∷ later) =
    let so_far = hears_so_far a (x ∷ []) in
    let by : ended_by a x ≡ so_far.0 = ended-are a x so_far.0 so_far.1 in
    let now = a ++ x ∷ [] in
    let ended = map (heard_in now) (ended_by a x) in
    let rest = pairs_in (ended_in now later) in
    let before = key_pairs (heard a) in
    ap (λ (ps : List Pair). before ++ ps) (map-append (λ (key : Heard). key.sight.pair) ended (ended_in now later))
    ∙ ap (λ (ps : List Pair). before ++ (ps ++ rest)) (same-pairs now (ended_by a x))
    ∙ sym (append_assoc before (key_pairs (ended_by a x)) rest)
    ∙ ap (λ (ks : List HeardKey). (before ++ key_pairs ks) ++ rest) by
    ∙ ap (λ (ps : List Pair). ps ++ rest) (sym (map-append (λ (key : HeardKey). key.sight.pair) (heard a) so_far.0))
    ∙ ap (λ (ks : List HeardKey). key_pairs ks ++ rest) (sym so_far.1)
    ∙ pairs-more now later
    ∙ ap (λ (zs : List ℤ). key_pairs (heard zs)) (append_assoc a (x ∷ []) later)

-- the keys of a sound have the pairs of those that the ear hears
pub pairs-same : (samples : List ℤ) → pairs_in (keys_of_sound samples) ≡ key_pairs (ear_keys samples)
pairs-same samples =
    let last = listed_key (hearing_after samples).sounding in
    map-append (λ (key : Heard). key.sight.pair) (ended_keys samples) (map (heard_in samples) last)
    ∙ ap₂ (λ (ps qs : List Pair). ps ++ qs) (pairs-more [] samples) (same-pairs samples last)
    ∙ sym (map-append (λ (key : HeardKey). key.sight.pair) (heard samples) last)

-- what ends in the first samples are the first of all keys
pub keys-begin : (earlier later : List ℤ)
    → (rest : List Heard) × (keys_of_sound (earlier ++ later) ≡ ended_keys earlier ++ rest)
keys-begin earlier later =
    let all = earlier ++ later in
    let last : List Heard = map (heard_in all) (listed_key (hearing_after all).sounding) in (
      ended_in earlier later ++ last,
      ap (λ (ks : List Heard). ks ++ last) (ended-more [] earlier later)
          ∙ append_assoc (ended_keys earlier) (ended_in earlier later) last,
    )
