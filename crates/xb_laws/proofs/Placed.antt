-- Where the keys of a sound are heard: each begins with its tone, and ends with it, to a window.
use Rattle.std.proofs.Common.{◌≡◌, ◌∙◌, ℕ, ◌+◌, ◌-◌, ◌*◌, ◌≤◌, List, [], ◌∷◌, ◌++◌, map, fold, length, sym, ap, subst, arith, refl, ℤ, pos, Option, Some, None, inl, length-append}
use Rattle.std.specs.List.{range_with_len}
use Rattle.std.proofs.lemmas.List.{length-map, length-replicate}
use Rattle.xb_model.specs.declared.mark.Mark.{Mark}
use Rattle.xb_model.specs.declared.mark.Mark.TheVariants.{Trunk, Tone, Refused}
use Rattle.xb_model.specs.declared.key.Tone.{Tone as Pair}
use Rattle.xb_model.specs.Image.{image_from}
use Rattle.xb_sound.specs.declared.cadence.Cadence.{Cadence}
use Rattle.xb_sound.specs.Cadences.{tone_ms}
use Rattle.xb_sound.specs.HeardKeys.{AreKeyed}
use Rattle.xb_sound.specs.Sounds.{silence}
use Rattle.xb_ear.specs.declared.hearing.Heard.{Heard}
use Rattle.xb_ear.specs.declared.hearing.Hearing.{Hearing}
use Rattle.xb_ear.specs.Disturbed.{AreWithin, bounded}
use Rattle.xb_ear.specs.Ears.{seen_at, sights, windows_in}
use Rattle.xb_ear.specs.HeardKeys.{IsHearable, IsHearableUnlike, MOST_NOISE, disturbable}
use Rattle.xb_ear.specs.Hearings.{hearer, listed, silent}
use Rattle.xb_ear.specs.Receivers.{keys_of_sound}
use Rattle.xb_ear.proofs.Fading.{AreLow, sees-key}
use Rattle.xb_ear.proofs.HeardKeys.{disturbed-show, gapped, has-tone, lead-goes-on, tone-enough, tone-seen, toned}
use Rattle.xb_ear.proofs.Segments.{AreMatched, Within, matched-within, part_of, sees}
use Rattle.xb_ear.proofs.Shown.{still}
use Rattle.xb_ear.proofs.SoonLow.{sound-low}
use Rattle.xb_laws.proofs.Places.{AreMore, ArePlaced, after-lead, after-refusal, are-more, first_within, past_within, with-tone}
use Rattle.xb_laws.proofs.Parts.{HasHeard, IsReady, keys-split, keys_from, not-sounding, silence-ends, tone-sounds, views, views-split}

unlike : (cadence : Cadence) → IsHearable cadence → IsHearableUnlike cadence
unlike cadence lawful = record { kp = lawful.kp; key = lawful.key; gap = omega (arith, lawful.gap) }

module _ (cadence : Cadence) (lawful : IsHearable cadence) (samples : List ℤ) (low : AreLow samples) where
  -- what is heard of marks that come after samples and a silence
  placed-from : (marks : List Mark) → AreKeyed marks → (past : List (ℤ × ℕ)) (z : ℕ) (a : Option Pair) (first : ℕ)
      (h : Hearing) → HasHeard a (length past) h → IsReady a first past z h
      → AreMatched Within (past ++ (part_of still MOST_NOISE z ++ disturbable cadence marks)) samples
      → (total : ℕ) → total ≡ length past + z + length (disturbable cadence marks)
      → AreMore cadence a first (past_within (length past)) (length past + z) marks
      (keys_from h (views samples (length past) total))
  placed-from [] keyed past z a first h has ready near total is =
      let from : ℕ = length past in
      let end : total ≡ from + z = omega (arith, is) in
      let quiet = silence-ends cadence samples past [] z a first h has ready near in
      let js = views samples from (from + z) in
      let none : (fold hearer.next h js).sounding ≡ None =
      not-sounding (fold hearer.next h js).sounding quiet.heard.arrived.sounds in
      subst (λ (n : ℕ). AreMore cadence a first (past_within from) (from + z) [] (keys_from h (views samples from n)))
      (sym end)
      (subst (λ (key : Option Heard). AreMore cadence a first (past_within from) (from + z) []
      (image_from hearer h js ++ listed key)) (sym none)
      (are-more cadence a first (past_within from) (from + z) (from + z) [] (image_from hearer h js) [] quiet.keys tt))
  placed-from (Trunk t ∷ marks) keyed past z a first h has ready near total is =
      let lead : ℕ = cadence.lead_ms * 8 in
      let from : ℕ = length past in
      let rest = disturbable cadence marks in
      let pause = bounded MOST_NOISE (silence cadence.lead_ms) in
      let pause-long : length pause ≡ lead =
      length-map (silence cadence.lead_ms) (λ x. (x, MOST_NOISE)) ∙ length-replicate lead (pos 0) in
      after-lead cadence t a first (past_within from) (from + z) (from + (z + lead)) marks
      (keys_from h (views samples from total))
      (omega arith)
      (placed-from marks keyed.1 past (z + lead) a first h has (later-ready a ready)
      (subst (λ (xs : List (ℤ × ℕ)). AreMatched Within (past ++ xs) samples) (lead-goes-on cadence z rest) near) total
      (omega (arith, is, length-append pause rest, pause-long)))
    where
      later-ready : (b : Option Pair) → IsReady b first past z h → IsReady b first past (z + cadence.lead_ms * 8) h
      later-ready None ready = ready
      later-ready (Some p) ready = (omega (arith, ready.0), ready.1)
  placed-from (Refused reason count ∷ marks) keyed past z a first h has ready near total is =
      after-refusal cadence reason count a first (past_within (length past)) (length past + z) marks
      (keys_from h (views samples (length past) total))
      (placed-from marks keyed.1 past z a first h has ready near total is)
  placed-from (Tone key p ∷ marks) keyed past z a first h has ready near total is =
      let m : ℕ = tone_ms cadence key * 8 in
      let gap : ℕ = cadence.gap_ms * 8 in
      let later = disturbable cadence marks in
      let from : ℕ = length past in
      let to : ℕ = from + z in
      let end : ℕ = to + m in
      let tone = has-tone Within cadence key p past z later samples near in
      let sees-tone : (w : ℕ) → to ≤ 20 * w → 20 * w + 80 ≤ end → sees samples w ≡ Some p =
      λ w from to. sees-key samples low p w (omega (arith, to, tone.fits))
      (tone-seen Within disturbed-show cadence key p keyed.0.0 keyed.0.1 past z later samples tone w from to) in
      let first-part = silence-ends cadence samples past ((toned cadence key p ++ gapped cadence) ++ later) z a first h has ready
      tone.quiet in
      let h1 : Hearing = fold hearer.next h (views samples from to) in
      let tone-part = tone-sounds cadence samples p to m h1 first-part.heard
      (tone-enough cadence (unlike cadence lawful) key p keyed.0.0 keyed.0.1) sees-tone in
      let h2 : Hearing = fold hearer.next h1 (views samples to end) in
      let past3 = (past ++ part_of still MOST_NOISE z) ++ toned cadence key p in
      let at3 : length past3 ≡ end = tone.ends in
      let all : total ≡ length past3 + gap + length later = omega (arith, is, at3, tone.long) in
      let rest = placed-from marks keyed.1 past3 gap (Some p) (first_within to) h2
      (subst (λ (n : ℕ). HasHeard (Some p) n h2) (sym at3) tone-part.heard)
      (omega (arith, lawful.gap), tone-part.lasts) tone.after total all in
      let later-keys = keys_from h2 (views samples end total) in
      let placed : ArePlaced cadence to (Tone key p ∷ marks) later-keys =
      with-tone cadence key p to marks later-keys
      (subst (λ (n : ℕ). AreMore cadence (Some p) (first_within to) (past_within n) (n + gap) marks
      (keys_from h2 (views samples n total))) at3 rest) in
      let before : end ≤ total = omega (arith, all, at3) in
      let first-split : views samples from total ≡ views samples from to ++ views samples to total =
      views-split samples from to total (omega arith) (omega (arith, before)) in
      let next-split : views samples to total ≡ views samples to end ++ views samples end total =
      views-split samples to end total (omega arith) before in
      let keys : keys_from h (views samples from total)
      ≡ image_from hearer h (views samples from to) ++ later-keys =
      ap (λ js. keys_from h js) first-split ∙ keys-split h (views samples from to) (views samples to total)
      ∙ ap (λ (ks : List Heard). image_from hearer h (views samples from to) ++ ks)
      (ap (λ js. keys_from h1 js) next-split ∙ keys-split h1 (views samples to end) (views samples end total)
      ∙ ap (λ (ks : List Heard). ks ++ later-keys) tone-part.none) in
      subst (λ (ks : List Heard). AreMore cadence a first (past_within from) to (Tone key p ∷ marks) ks) (sym keys)
      (are-more cadence a first (past_within from) to to (Tone key p ∷ marks)
      (image_from hearer h (views samples from to)) later-keys first-part.keys placed)

-- of a whole sound
pub placed : (cadence : Cadence) (marks : List Mark) (samples : List ℤ) → IsHearable cadence → AreKeyed marks
    → AreWithin (disturbable cadence marks) samples → ArePlaced cadence 0 marks (keys_of_sound samples)
placed cadence marks samples lawful keyed within =
    let matched = matched-within (disturbable cadence marks) samples within in
    let low = sound-low Within disturbed-show cadence (unlike cadence lawful) marks keyed samples matched in
    let n : ℕ = windows_in (length samples) in
    let all : n - 0 ≡ n = omega arith in
    let same : views samples 0 (length samples) ≡ sights samples =
    ap (λ (m : ℕ). map (seen_at samples) (range_with_len 0 m)) all in
    subst (λ js. ArePlaced cadence 0 marks (keys_from silent js)) same
    (placed-from cadence lawful samples low marks keyed [] 0 None 0 silent
    (record {
      arrived = record { sees = refl; sounds = refl; near = inl refl };
      orderly = record { first = omega arith; at = omega arith };
      at = omega arith;
    }) refl matched (length samples) (omega (arith, matched.long)))
