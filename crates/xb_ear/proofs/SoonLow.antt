-- Of any five windows in a row of a disturbed sound one lies in a tone or in a silence, and so holds no more than a key.
use Rattle.std.proofs.Common.{◌≡◌, ◌∙◌, ℕ, ◌+◌, ◌-◌, ◌*◌, ◌/◌, ◌<◌, ◌≤◌, true, List, [], ◌∷◌, ◌++◌, length, ap, subst, arith, ℤ, Some, None, inl, inr, length-append}
use Rattle.std.proofs.lemmas.Bool.{cases_lt}
use Rattle.xb_model.specs.declared.mark.Mark.{Mark}
use Rattle.xb_model.specs.declared.mark.Mark.TheVariants.{Trunk, Tone, Refused}
use Rattle.xb_sound.specs.declared.cadence.Cadence.{Cadence}
use Rattle.xb_sound.specs.Cadences.{tone_ms}
use Rattle.xb_sound.specs.HeardKeys.{AreKeyed}
use Rattle.xb_ear.specs.Ears.{sight_at, windows_in}
use Rattle.xb_ear.specs.HeardKeys.{IsHearableUnlike, MOST_NOISE, disturbable}
use Rattle.xb_ear.proofs.Fading.{AreLow, IsSoonLow}
use Rattle.xb_ear.proofs.HeardKeys.{ShowKeys, gapped, has-tone, lead-goes-on, part-long, tone-enough, tone-seen, toned}
use Rattle.xb_ear.proofs.Runs.{needed-range}
use Rattle.xb_ear.proofs.Segments.{AreMatched, part_of, sees-part}
use Rattle.xb_ear.proofs.Shown.{still}
use Rattle.xb_ear.proofs.Standing.{is_low}

module _ (R : ℕ → List (ℤ × ℕ) → List ℤ → Type 0) (show : ShowKeys R) (cadence : Cadence) (lawful : IsHearableUnlike cadence)
    (samples : List ℤ) where
  abbrev IsLowFrom : ℕ → ℕ → Type 0
  IsLowFrom a b = (w : ℕ) → a ≤ 20 * w → 20 * w + 80 ≤ b → is_low (sight_at samples w) ≡ true

  -- a window that begins in one part of two
  in-parts : (a b c : ℕ) → IsLowFrom a b → IsLowFrom b c → b + 99 ≤ c → (w : ℕ) → a ≤ 20 * w → 20 * w < b
      → (d : ℕ) × IsSoonLow samples w d
  in-parts a b c first second long w from before = elim (cases_lt (20 * w + 79) b) [
    | inl inside ↦
        let here : w + 0 ≡ w = omega arith in (
          0,
          record {
            soon = omega arith;
            low = inl (ap (λ (i : ℕ). is_low (sight_at samples i)) here ∙ first w from (omega (arith, inside)));
          },
        )
    | inr crosses ↦
        let d : ℕ = (b + 19) / 20 - w in
        let later : w + d ≡ (b + 19) / 20 = omega (arith, before) in (
          d,
          record {
            soon = omega (arith, crosses);
            low = inl (second (w + d) (omega (arith, later)) (omega (arith, later, long)));
          },
        )
  ]

  still-low : (past rest : List (ℤ × ℕ)) (z : ℕ) → AreMatched R (past ++ (part_of still MOST_NOISE z ++ rest)) samples
      → IsLowFrom (length past) (length past + z)
  still-low past rest z near w from to =
      (sees-part R still MOST_NOISE None show.none past rest samples z w near from to).low

  -- a window that begins in a silence or later, where marks follow
  from-still : (marks : List Mark) → AreKeyed marks → (past : List (ℤ × ℕ)) (z : ℕ)
      → AreMatched R (past ++ (part_of still MOST_NOISE z ++ disturbable cadence marks)) samples
      → (w : ℕ) → length past ≤ 20 * w → w < windows_in (length samples) → (d : ℕ) × IsSoonLow samples w d
  from-still [] keyed past z near w from below =
      let quiet = part_of still MOST_NOISE z in
      let quiet-long : length quiet ≡ z = part-long still MOST_NOISE z in
      let here : w + 0 ≡ w = omega arith in
      let fits : 20 * w + 80 ≤ length past + z =
      omega (
        arith,
        below,
        quiet-long,
        near.long,
        length-append past (quiet ++ []),
        length-append quiet [],
      ) in (
        0,
        record {
          soon = omega arith;
          low = inl (ap (λ (i : ℕ). is_low (sight_at samples i)) here ∙ still-low past [] z near w from fits);
        },
      )
  from-still (Trunk t ∷ marks) keyed past z near w from below =
      from-still marks keyed.1 past (z + cadence.lead_ms * 8)
      (subst (λ (xs : List (ℤ × ℕ)). AreMatched R (past ++ xs) samples) (lead-goes-on cadence z (disturbable cadence marks)) near)
      w from below
  from-still (Refused reason count ∷ marks) keyed past z near w from below =
      from-still marks keyed.1 past z near w from below
  from-still (Tone key p ∷ marks) keyed past z near w from below =
      let gap : ℕ = cadence.gap_ms * 8 in
      let later = disturbable cadence marks in
      let to : ℕ = length past + z in
      let end : ℕ = to + tone_ms cadence key * 8 in
      let tone = has-tone R cadence key p past z later samples near in
      let needed = tone-enough cadence lawful key p keyed.0.0 keyed.0.1 in
      let long : 240 ≤ tone_ms cadence key * 8 = omega (arith, needed, (needed-range (Some p)).0) in
      let past3 = (past ++ part_of still MOST_NOISE z) ++ toned cadence key p in
      let at3 : length past3 ≡ end = tone.ends in
      let quiet-low : IsLowFrom (length past) to = still-low past ((toned cadence key p ++ gapped cadence) ++ later) z tone.quiet in
      let tone-low : IsLowFrom to end =
      λ w a b. (tone-seen R show cadence key p keyed.0.0 keyed.0.1 past z later samples tone w a b).low in
      let pause-low : IsLowFrom end (end + gap) =
      λ w a b. still-low past3 later gap tone.after w (omega (arith, at3, a)) (omega (arith, at3, b)) in
      elim (cases_lt (20 * w) to) [
        | inl in_quiet ↦ in-parts (length past) to end quiet-low tone-low (omega (arith, long)) w from in_quiet
        | inr past_quiet ↦ elim (cases_lt (20 * w) end) [
          | inl in_tone ↦ in-parts to end (end + gap) tone-low pause-low (omega (arith, lawful.gap)) w past_quiet in_tone
          | inr past_tone ↦
              from-still marks keyed.1 past3 gap tone.after w (omega (arith, at3, past_tone)) below
        ]
      ]

pub sound-low : (R : ℕ → List (ℤ × ℕ) → List ℤ → Type 0) → ShowKeys R → (cadence : Cadence) → IsHearableUnlike cadence
    → (marks : List Mark) → AreKeyed marks → (samples : List ℤ) → AreMatched R (disturbable cadence marks) samples
    → AreLow samples
sound-low R show cadence lawful marks keyed samples matched w below =
    from-still R show cadence lawful samples marks keyed [] 0 matched w (omega arith) below
