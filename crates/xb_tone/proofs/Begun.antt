-- Where entries sound.
use Rattle.std.proofs.Common.{◌≡◌, ◌∙◌, ℕ, ◌+◌, ◌*◌, ◌-◌, ◌≤◌, List, [], ◌∷◌, ◌++◌, length, length-append, take, drop, None, sym, ap, append_assoc, arith, refl, ℤ, pos}
use Rattle.std.proofs.lemmas.List.{length-replicate, take-append-drop}
use Rattle.std.proofs.lemmas.List.FromFn.{length-map-range_with_len, take-map-range_with_len}
use Rattle.std.proofs.Math.Seq.{drop-append_seam, take-append_seam}
use Rattle.xb_model.specs.declared.key.Key.TheVariants.{Kp}
use Rattle.xb_model.specs.declared.order.Order.{Order}
use Rattle.xb_model.specs.declared.order.Order.TheVariants.{Key}
use Rattle.xb_model.specs.Keyings.{marks_of as marks_of_order}
use Rattle.xb_model.specs.MfPairs.{mf_pair}
use Rattle.xb_sound.specs.declared.cadence.Cadence.{Cadence}
use Rattle.xb_sound.specs.Sines.{pair_sample}
use Rattle.xb_sound.specs.Sounds.{silence, sound_of, tone_sound}
use Rattle.xb_tone.specs.declared.entry.PlacedEntry.{PlacedEntry}
use Rattle.xb_tone.specs.Laws.{EachSounds, KeyingsBegin}
use Rattle.xb_tone.specs.Sounds.{entry_sound, sound_after, sound_at, up_to, with_entry}
use Rattle.xb_tone.specs.Times.{early_after}
use Rattle.xb_tone.proofs.Follows.{kept, order-step, silent_first, up_to-length, up_to-more}

-- the sound of entries up to one, and from it on
after-append : (cadence : Cadence) (so_far : List ℤ) (earlier : List PlacedEntry) (entry : PlacedEntry) (later : List PlacedEntry)
    → sound_after cadence so_far (earlier ++ (entry ∷ later))
    ≡ sound_after cadence (with_entry cadence (sound_after cadence so_far earlier) entry) later
unfolding sound_after
after-append cadence so_far [] entry later = refl
after-append cadence so_far (one ∷ earlier) entry later =
    after-append cadence (with_entry cadence so_far one) earlier entry later

-- what sounds before an entry
before_entry : Cadence → List PlacedEntry → PlacedEntry → List ℤ
before_entry cadence earlier entry = up_to (entry.at_ms * 8) (sound_after cadence [] earlier)

-- the beginning of the sound of an entry stays
window : (cadence : Cadence) (earlier later : List PlacedEntry) (entry : PlacedEntry) (begun left : List ℤ) (ms : ℕ)
    → entry_sound cadence entry ≡ begun ++ left → length begun ≡ ms * 8 → early_after (entry.at_ms + ms) later ≡ None
    → (rest : List ℤ) × (sound_at cadence (earlier ++ (entry ∷ later)) ≡ (before_entry cadence earlier entry ++ begun) ++ rest)
unfolding before_entry
window cadence earlier later entry begun left ms parts size order =
    let done = before_entry cadence earlier entry in
    let long : length (done ++ begun) ≡ (entry.at_ms + ms) * 8 =
    length-append done begun ∙ ap (λ n. n + length begun) (up_to-length (entry.at_ms * 8) (sound_after cadence [] earlier))
    ∙ ap (λ n. entry.at_ms * 8 + n) size ∙ omega arith in
    let rest = kept cadence (entry.at_ms + ms) (done ++ begun) left later order (omega (arith, long)) in (
      rest.0,
      after-append cadence [] earlier entry later
          ∙ ap (λ (own : List ℤ). sound_after cadence (done ++ own) later) parts
          ∙ ap (λ (sound : List ℤ). sound_after cadence sound later) (sym (append_assoc done begun left))
          ∙ rest.1,
    )

before-length : (cadence : Cadence) (earlier : List PlacedEntry) (entry : PlacedEntry)
    → length (before_entry cadence earlier entry) ≡ entry.at_ms * 8
unfolding before_entry
before-length cadence earlier entry = up_to-length (entry.at_ms * 8) (sound_after cadence [] earlier)

-- the parts of a sound: what comes before a place, a part, and the rest
part-at : (sound before part rest : List ℤ) (n m : ℕ) → sound ≡ (before ++ part) ++ rest → length before ≡ n → length part ≡ m
    → take m (drop n sound) ≡ part
part-at sound before part rest n m is n_is m_is =
    ap (λ (xs : List ℤ). take m (drop n xs)) (is ∙ append_assoc before part rest)
    ∙ ap (λ k. take m (drop k (before ++ (part ++ rest)))) (sym n_is)
    ∙ ap (take m) (drop-append_seam before (part ++ rest))
    ∙ ap (λ k. take k (part ++ rest)) (sym m_is)
    ∙ take-append_seam part rest

-- KP sounds after the lead
kp_first : (cadence : Cadence) (entry : PlacedEntry) (trunk : ℕ) (digits : List ℕ) → entry.order ≡ Key trunk digits
    → (more : List ℤ) × (entry_sound cadence entry ≡ silence cadence.lead_ms ++ (tone_sound (mf_pair Kp) cadence.kp_ms ++ more))
kp_first cadence entry trunk digits is =
    let after = sound_of cadence (drop 2 (marks_of_order (Key trunk digits))) in (
      silence cadence.gap_ms ++ after,
      ap (λ (order : Order). sound_of cadence (marks_of_order order)) is
          ∙ ap (λ (xs : List ℤ). silence cadence.lead_ms ++ xs)
          (append_assoc (tone_sound (mf_pair Kp) cadence.kp_ms) (silence cadence.gap_ms) after),
    )

tone-parts : (lead ms kp : ℕ) (more : List ℤ) → ms ≤ kp
    → (left : List ℤ) × (silence lead ++ (tone_sound (mf_pair Kp) kp ++ more) ≡ (silence lead ++ tone_sound (mf_pair Kp) ms) ++ left)
tone-parts lead ms kp more few =
    let f : ℕ → ℤ = λ n. pair_sample (mf_pair Kp) n in
    let tone = tone_sound (mf_pair Kp) kp in
    let within : ms * 8 ≤ kp * 8 = omega (arith, few) in
    let first : take (ms * 8) tone ≡ tone_sound (mf_pair Kp) ms = take-map-range_with_len f 0 (kp * 8) (ms * 8) within in
    let left = drop (ms * 8) tone in
    let both : tone ≡ tone_sound (mf_pair Kp) ms ++ left =
    sym (take-append-drop (ms * 8) tone) ∙ ap (λ (xs : List ℤ). xs ++ left) first in (
      left ++ more,
      ap (λ (xs : List ℤ). silence lead ++ (xs ++ more)) both
          ∙ ap (λ (xs : List ℤ). silence lead ++ xs) (append_assoc (tone_sound (mf_pair Kp) ms) left more)
          ∙ sym (append_assoc (silence lead) (tone_sound (mf_pair Kp) ms) (left ++ more)),
    )

pub keyings_begin : KeyingsBegin
keyings_begin cadence earlier later entry trunk digits ms is few order =
    let lead = cadence.lead_ms in
    let silent = silence lead in
    let tone = tone_sound (mf_pair Kp) ms in
    let done = before_entry cadence earlier entry in
    let kp = kp_first cadence entry trunk digits is in
    let parts = tone-parts lead ms cadence.kp_ms kp.0 few in
    let silent_size : length silent ≡ lead * 8 = length-replicate (lead * 8) (pos 0) in
    let tone_size : length tone ≡ ms * 8 = length-map-range_with_len (λ n. pair_sample (mf_pair Kp) n) 0 (ms * 8) in
    let size : length (silent ++ tone) ≡ (lead + ms) * 8 =
    omega (arith, length-append silent tone, silent_size, tone_size) in
    let same : entry.at_ms + lead + ms ≡ entry.at_ms + (lead + ms) = omega arith in
    let found = window cadence earlier later entry (silent ++ tone) parts.0 (lead + ms) (kp.1 ∙ parts.1) size
    (ap (λ at. early_after at later) (sym same) ∙ order) in
    let whole : sound_at cadence (earlier ++ (entry ∷ later)) ≡ ((done ++ silent) ++ tone) ++ found.0 =
    found.1 ∙ ap (λ (xs : List ℤ). xs ++ found.0) (sym (append_assoc done silent tone)) in
    let place : length (done ++ silent) ≡ (entry.at_ms + lead) * 8 =
    omega (arith, length-append done silent, before-length cadence earlier entry, silent_size) in
    part-at (sound_at cadence (earlier ++ (entry ∷ later))) (done ++ silent) tone found.0 ((entry.at_ms + lead) * 8) (ms * 8)
    whole place tone_size

each-first : (cadence : Cadence) (entry : PlacedEntry) (later : List PlacedEntry) → early_after entry.at_ms later ≡ None
    → take (entry.at_ms * 8) (sound_at cadence (entry ∷ later)) ≡ silence entry.at_ms
each-first cadence entry later order =
    let silent = silence entry.at_ms in
    let size : length silent ≡ entry.at_ms * 8 = length-replicate (entry.at_ms * 8) (pos 0) in
    let rest = kept cadence entry.at_ms silent (entry_sound cadence entry) later order (omega (arith, size)) in
    ap (take (entry.at_ms * 8)) (silent_first cadence entry later ∙ rest.1)
    ∙ ap (λ n. take n (silent ++ rest.0)) (sym size)
    ∙ take-append_seam silent rest.0

each-between : (cadence : Cadence) (earlier later : List PlacedEntry) (entry next : PlacedEntry)
    → early_after entry.at_ms (next ∷ later) ≡ None
    → take ((next.at_ms - entry.at_ms) * 8) (drop (entry.at_ms * 8) (sound_at cadence (earlier ++ (entry ∷ next ∷ later))))
    ≡ up_to ((next.at_ms - entry.at_ms) * 8) (entry_sound cadence entry)
unfolding before_entry sound_after
each-between cadence earlier later entry next order =
    let step = order-step entry.at_ms next later order in
    let n : ℕ = (next.at_ms - entry.at_ms) * 8 in
    let done = before_entry cadence earlier entry in
    let own = entry_sound cadence entry in
    let long : length done ≡ entry.at_ms * 8 = before-length cadence earlier entry in
    let cut : next.at_ms * 8 ≡ length done + n = omega (arith, long, step.0) in
    let part = up_to n own in
    let size : length part ≡ n = up_to-length n own in
    let short : length (done ++ part) ≤ next.at_ms * 8 = omega (arith, length-append done part, size, cut) in
    let rest = kept cadence next.at_ms (done ++ part) (entry_sound cadence next) later step.1 short in
    let whole : sound_at cadence (earlier ++ (entry ∷ next ∷ later)) ≡ (done ++ part) ++ rest.0 =
    after-append cadence [] earlier entry (next ∷ later)
    ∙ ap (λ (xs : List ℤ). sound_after cadence (xs ++ entry_sound cadence next) later)
    (up_to-more (next.at_ms * 8) n done own cut)
    ∙ rest.1 in
    part-at (sound_at cadence (earlier ++ (entry ∷ next ∷ later))) done part rest.0 (entry.at_ms * 8) n whole long size

each-last : (cadence : Cadence) (earlier : List PlacedEntry) (entry : PlacedEntry)
    → drop (entry.at_ms * 8) (sound_at cadence (earlier ++ (entry ∷ []))) ≡ entry_sound cadence entry
unfolding before_entry sound_after
each-last cadence earlier entry =
    let done = before_entry cadence earlier entry in
    let own = entry_sound cadence entry in
    ap (drop (entry.at_ms * 8)) (after-append cadence [] earlier entry [])
    ∙ ap (λ n. drop n (done ++ own)) (sym (before-length cadence earlier entry))
    ∙ drop-append_seam done own

pub each_sounds : EachSounds
each_sounds = record { first = each-first; between = each-between; last = each-last }
