-- What is keyed is heard, disturbed too.
use Rattle.std.proofs.Common.{◌≡◌, ◌∙◌, ℕ, zero, suc, ◌+◌, ◌-◌, ◌*◌, ◌≤◌, Bool, true, false, List, [], ◌∷◌, ◌++◌, map, replicate, length, sym, ap, subst, arith, refl, ℤ, pos, Option, Some, None, inl, inr, ◌⊎◌, append_assoc, append-nil, length-append}
use Rattle.std.specs.List.{range_with_len}
use Rattle.std.proofs.lemmas.List.{length-map, length-replicate}
use Rattle.std.proofs.lemmas.Simd.{map-map}
use Rattle.std.proofs.lemmas.List.FromFn.{length-map-range_with_len}
use Rattle.xb_model.specs.declared.key.Key.{Key}
use Rattle.xb_model.specs.declared.key.Key.TheVariants.{Digit, Kp, St}
use Rattle.xb_model.specs.declared.key.Tone.{Tone as Pair}
use Rattle.xb_model.specs.declared.mark.Mark.{Mark}
use Rattle.xb_model.specs.declared.mark.Mark.TheVariants.{Trunk, Tone, Refused}
use Rattle.xb_model.specs.MfPairs.{mf_pair}
use Rattle.xb_sound.specs.declared.cadence.Cadence.{Cadence}
use Rattle.xb_sound.specs.Cadences.{tone_ms}
use Rattle.xb_sound.specs.HeardKeys.{AreKeyed, IsKey}
use Rattle.xb_sound.specs.Sines.{pair_sample}
use Rattle.xb_sound.specs.Sounds.{silence}
use Rattle.xb_sound.proofs.KeyWaves.{each_digit}
use Rattle.xb_ear.specs.Disturbed.{bounded}
use Rattle.xb_ear.specs.Ears.{heard, seen_at, sight_at, sights, windows_in}
use Rattle.xb_ear.specs.HeardKeys.{AreUnlike, IsHearableUnlike, MOST_NOISE, MOST_NOISE_IN_TONES, disturbable, mark_disturbable, pairs_in, tones_of}
use Rattle.xb_ear.specs.Hearings.{silent}
use Rattle.xb_ear.specs.LongRuns.{is_same_label, label, needed_of, one}
use Rattle.xb_ear.proofs.Fading.{AreLow, sees-key, sees-silence}
use Rattle.xb_ear.proofs.Runs.{Gives, HasArrived, gives-then, label-same, stays}
use Rattle.xb_ear.proofs.Segments.{AreMatched, ShowsBy, Within, all-in-range, between, part-turns, part_of, pause-turns, pause-whole, range-split, sees, sees-part, shows-within}
use Rattle.xb_ear.proofs.Shown.{silence-shows, still}
use Rattle.xb_ear.proofs.ShownKeys.{shows-key}
use Rattle.xb_ear.proofs.Standing.{Sees}
use Rattle.xb_ear.proofs.Steps.{Known, after_all, gives_all, known, pairs-heard, whole, whole-append}

-- silence, as a part
pub zeros : (n i : ℕ) → bounded MOST_NOISE (replicate n (pos 0)) ≡ map (λ k. (still k, MOST_NOISE)) (range_with_len i n)
zeros zero i = refl
zeros (suc n) i = ap (λ (xs : List (ℤ × ℕ)). (pos 0, MOST_NOISE) ∷ xs) (zeros n (i + 1))

pub more-zeros : (z n : ℕ) → part_of still MOST_NOISE z ++ bounded MOST_NOISE (replicate n (pos 0)) ≡ part_of still MOST_NOISE (z + n)
more-zeros z n =
    ap (λ (xs : List (ℤ × ℕ)). part_of still MOST_NOISE z ++ xs) (zeros n (0 + z))
    ∙ sym (range-split (λ k. (still k, MOST_NOISE)) 0 z n (z + n) refl)

-- a silence goes on through the one before the keys of a trunk
pub lead-goes-on : (cadence : Cadence) (z : ℕ) (rest : List (ℤ × ℕ))
    → part_of still MOST_NOISE z ++ (bounded MOST_NOISE (silence cadence.lead_ms) ++ rest)
    ≡ part_of still MOST_NOISE (z + cadence.lead_ms * 8) ++ rest
lead-goes-on cadence z rest =
    sym (append_assoc (part_of still MOST_NOISE z) (bounded MOST_NOISE (silence cadence.lead_ms)) rest)
    ∙ ap (λ (xs : List (ℤ × ℕ)). xs ++ rest) (more-zeros z (cadence.lead_ms * 8))

-- the tone of a key, and the gap after it
abbrev pub toned : Cadence → Key → Pair → List (ℤ × ℕ)
toned cadence key p = part_of (λ n. pair_sample p n) MOST_NOISE_IN_TONES (tone_ms cadence key * 8)

abbrev pub gapped : Cadence → List (ℤ × ℕ)
gapped cadence = part_of still MOST_NOISE (cadence.gap_ms * 8)

pub tone-parts : (cadence : Cadence) (key : Key) (p : Pair)
    → mark_disturbable cadence (Tone key p) ≡ toned cadence key p ++ gapped cadence
tone-parts cadence key p =
    ap (λ (xs : List (ℤ × ℕ)). xs ++ bounded MOST_NOISE (silence cadence.gap_ms))
    (map-map (λ (x : ℤ). (x, MOST_NOISE_IN_TONES)) (λ (n : ℕ). pair_sample p n) (range_with_len 0 (tone_ms cadence key * 8)))
    ∙ ap (λ (xs : List (ℤ × ℕ)). toned cadence key p ++ xs) (zeros (cadence.gap_ms * 8) 0)

-- how long a part is
pub part-long : (f : ℕ → ℤ) (noise m : ℕ) → length (part_of f noise m) ≡ m
part-long f noise m = length-map-range_with_len (λ k. (f k, noise)) 0 m

-- windows up to a place and from it on
between-split : (j : ℕ → Option Pair) (a b c : ℕ) → a ≤ b → b ≤ c → between j a c ≡ between j a b ++ between j b c
between-split j a b c ab bc =
    let first : windows_in a ≤ windows_in b = omega (arith, ab) in
    let second : windows_in b ≤ windows_in c = omega (arith, bc) in
    let place : windows_in a + (windows_in b - windows_in a) ≡ windows_in b = omega (arith, first) in
    range-split j (windows_in a) (windows_in b - windows_in a) (windows_in c - windows_in b) (windows_in c - windows_in a)
    (omega (arith, first, second))
    ∙ ap (λ (i : ℕ). between j a b ++ map j (range_with_len i (windows_in c - windows_in b))) place

-- how long the tone of a key is
pub long-enough : (cadence : Cadence) → IsHearableUnlike cadence → (key : Key) → IsKey key
    → needed_of (Some (mf_pair key)) * 20 + 80 ≤ tone_ms cadence key * 8
long-enough cadence lawful Kp is = omega (arith, lawful.kp)
long-enough cadence lawful St is = omega (arith, lawful.key)
long-enough cadence lawful (Digit d) is =
    let eight : needed_of (Some (mf_pair (Digit d))) ≡ 8 =
    each_digit (λ d. needed_of (Some (mf_pair (Digit d))) ≡ 8) refl refl refl refl refl refl refl refl refl refl d is in
    omega (arith, lawful.key, eight)

-- each gap of so many samples is silence, or tells a pair from another one before it
abbrev pub AreTold : ℕ → Option Pair → List Pair → Type 0
AreTold gap before [] = Unit {0}
AreTold gap before (p ∷ ps) = ((240 ≤ gap) ⊎ (is_same_label before (Some p) ≡ false)) × AreTold gap (Some p) ps

pub told-by-gaps : (gap : ℕ) → 240 ≤ gap → (before : Option Pair) (ps : List Pair) → AreTold gap before ps
told-by-gaps gap wide before [] = tt
told-by-gaps gap wide before (p ∷ ps) = (inl wide, told-by-gaps gap wide (Some p) ps)

pub told-by-pairs : (gap : ℕ) (before : Option Pair) (ps : List Pair) → AreUnlike before ps → AreTold gap before ps
told-by-pairs gap before [] unlike = tt
told-by-pairs gap before (p ∷ ps) unlike =
    (inr (by (is_same_label before (Some p)) refl), told-by-pairs gap (Some p) ps unlike.1)
  where
    by : (b : Bool) → is_same_label before (Some p) ≡ b → is_same_label before (Some p) ≡ false
    by true e = absurd (unlike.0 (label-same before (Some p) e))
    by false e = e

-- a silence that is long enough, or the first one
abbrev IsReady : Option Pair → List (ℤ × ℕ) → ℕ → Type 0
IsReady a past z = ((a ≡ None) × (length past ≡ 0)) ⊎ ((is_same_label a None ≡ false) × (240 ≤ z))

-- a gap, or the first silence
abbrev IsPaused : ℕ → Option Pair → List (ℤ × ℕ) → ℕ → Type 0
IsPaused gap a past z = ((a ≡ None) × (length past ≡ 0)) ⊎ ((is_same_label a None ≡ false) × (gap ≤ z))

-- before p there is such a silence, or a gap after another pair
told-ready : (gap : ℕ) (a : Option Pair) (p : Pair) (past : List (ℤ × ℕ)) (z : ℕ) → IsPaused gap a past z
    → (240 ≤ gap) ⊎ (is_same_label a (Some p) ≡ false)
    → IsReady a past z ⊎ ((is_same_label a (Some p) ≡ false) × (gap ≤ z))
told-ready gap a p past z paused told = elim paused [
  | inl first ↦ inl (inl first)
  | inr later ↦ elim told [
    | inl wide ↦ inl (inr (later.0, omega (arith, later.1, wide)))
    | inr differ ↦ inr (differ, later.1)
  ]
]

gives-whole : (k : Known) (ls : List (Option Pair)) (what : List Pair) (b : Option Pair) → Gives k ls what b
    → whole k ls ≡ what ++ one b
gives-whole k ls what b run =
    ap (λ (ps : List Pair). ps ++ one (after_all k ls).sounding) run.given
    ∙ ap (λ (s : Option Pair). what ++ one s) run.arrived.sounds

-- what is known of each window shows what sounds in it: silence, and each key
pub record ShowKeys (R : ℕ → List (ℤ × ℕ) → List ℤ → Type 0) : Type 0 where
  pub none : ShowsBy R MOST_NOISE still None
  pub of_key : (key : Key) → IsKey key → ShowsBy R MOST_NOISE_IN_TONES (λ k. pair_sample (mf_pair key) k) (Some (mf_pair key))

-- that each sample is within its bounds does
pub disturbed-show : ShowKeys Within
disturbed-show = record {
  none = shows-within MOST_NOISE still None silence-shows;
  of_key = λ key is.
      shows-within MOST_NOISE_IN_TONES (λ k. pair_sample (mf_pair key) k) (Some (mf_pair key)) (shows-key key is);
}

-- a sound has a tone and its gap after what is past and a silence: where they are, and how samples stand to it
pub record HasTone (R : ℕ → List (ℤ × ℕ) → List ℤ → Type 0) (cadence : Cadence) (key : Key) (p : Pair) (past : List (ℤ × ℕ))
    (z : ℕ) (later : List (ℤ × ℕ)) (samples : List ℤ) : Type 0 where
  pub begins : length (past ++ part_of still MOST_NOISE z) ≡ length past + z
  pub ends : length ((past ++ part_of still MOST_NOISE z) ++ toned cadence key p) ≡ length past + z + tone_ms cadence key * 8
  pub fits : length past + z + tone_ms cadence key * 8 ≤ length samples
  pub long : length (mark_disturbable cadence (Tone key p) ++ later) ≡ tone_ms cadence key * 8 + cadence.gap_ms * 8 + length later
  pub quiet : AreMatched R (past ++ (part_of still MOST_NOISE z ++ ((toned cadence key p ++ gapped cadence) ++ later))) samples
  pub sound : AreMatched R ((past ++ part_of still MOST_NOISE z) ++ (toned cadence key p ++ (gapped cadence ++ later))) samples
  pub after : AreMatched R (((past ++ part_of still MOST_NOISE z) ++ toned cadence key p) ++ (gapped cadence ++ later)) samples

pub has-tone : (R : ℕ → List (ℤ × ℕ) → List ℤ → Type 0) (cadence : Cadence) (key : Key) (p : Pair) (past : List (ℤ × ℕ)) (z : ℕ)
    (later : List (ℤ × ℕ)) (samples : List ℤ)
    → AreMatched R (past ++ (part_of still MOST_NOISE z ++ (mark_disturbable cadence (Tone key p) ++ later))) samples
    → HasTone R cadence key p past z later samples
has-tone R cadence key p past z later samples near =
    let m : ℕ = tone_ms cadence key * 8 in
    let gap : ℕ = cadence.gap_ms * 8 in
    let quiet = part_of still MOST_NOISE z in
    let tone = toned cadence key p in
    let pause = gapped cadence in
    let tone-long : length tone ≡ m = part-long (λ n. pair_sample p n) MOST_NOISE_IN_TONES m in
    let pause-long : length pause ≡ gap = part-long still MOST_NOISE gap in
    let parts : mark_disturbable cadence (Tone key p) ≡ tone ++ pause = tone-parts cadence key p in
    let near1 : AreMatched R (past ++ (quiet ++ ((tone ++ pause) ++ later))) samples =
    subst (λ (xs : List (ℤ × ℕ)). AreMatched R (past ++ (quiet ++ (xs ++ later))) samples) parts near in
    let past2 = past ++ quiet in
    let at2 : length past2 ≡ length past + z = omega (arith, length-append past quiet, part-long still MOST_NOISE z) in
    let near2 : AreMatched R (past2 ++ (tone ++ (pause ++ later))) samples =
    subst (λ (xs : List (ℤ × ℕ)). AreMatched R xs samples)
    (ap (λ (xs : List (ℤ × ℕ)). past ++ (quiet ++ xs)) (append_assoc tone pause later)
    ∙ sym (append_assoc past quiet (tone ++ (pause ++ later)))) near1 in
    let at3 : length (past2 ++ tone) ≡ length past + z + m = omega (arith, length-append past2 tone, at2, tone-long) in
    let fits : length past + z + m ≤ length samples =
    omega (
      arith,
      at2,
      tone-long,
      near2.long,
      length-append past2 (tone ++ (pause ++ later)),
      length-append tone (pause ++ later),
    ) in
    let sound-long : length (mark_disturbable cadence (Tone key p) ++ later) ≡ m + gap + length later =
    length-append (mark_disturbable cadence (Tone key p)) later
    ∙ ap (λ (n : ℕ). n + length later) (ap (λ (xs : List (ℤ × ℕ)). length xs) parts ∙ length-append tone pause
    ∙ ap (λ (n : ℕ). n + length pause) tone-long ∙ ap (λ (n : ℕ). m + n) pause-long) in
    let near3 : AreMatched R ((past2 ++ tone) ++ (pause ++ later)) samples =
    subst (λ (xs : List (ℤ × ℕ)). AreMatched R xs samples) (sym (append_assoc past2 tone (pause ++ later))) near2 in
    record {
      begins = at2;
      ends = at3;
      fits = fits;
      long = sound-long;
      quiet = near1;
      sound = near2;
      after = near3;
    }

-- each window of the tone sees its pair
pub tone-seen : (R : ℕ → List (ℤ × ℕ) → List ℤ → Type 0) → ShowKeys R → (cadence : Cadence) (key : Key) (p : Pair)
    → IsKey key → p ≡ mf_pair key → (past : List (ℤ × ℕ)) (z : ℕ) (later : List (ℤ × ℕ)) (samples : List ℤ)
    → HasTone R cadence key p past z later samples → (w : ℕ) → length past + z ≤ 20 * w
    → 20 * w + 80 ≤ length past + z + tone_ms cadence key * 8 → Sees (Some p) (sight_at samples w)
tone-seen R show cadence key p is same past z later samples tone w from to =
    let shows : ShowsBy R MOST_NOISE_IN_TONES (λ n. pair_sample p n) (Some p) =
    subst (λ (q : Pair). ShowsBy R MOST_NOISE_IN_TONES (λ n. pair_sample q n) (Some q)) (sym same) (show.of_key key is) in
    sees-part R (λ n. pair_sample p n) MOST_NOISE_IN_TONES (Some p) shows (past ++ part_of still MOST_NOISE z)
    (gapped cadence ++ later) samples (tone_ms cadence key * 8) w tone.sound
    (omega (arith, tone.begins, from)) (omega (arith, tone.begins, to))

-- and there are enough of them
pub tone-enough : (cadence : Cadence) → IsHearableUnlike cadence → (key : Key) (p : Pair) → IsKey key → p ≡ mf_pair key
    → needed_of (Some p) * 20 + 80 ≤ tone_ms cadence key * 8
tone-enough cadence lawful key p is same =
    subst (λ (q : Pair). needed_of (Some q) * 20 + 80 ≤ tone_ms cadence key * 8) (sym same) (long-enough cadence lawful key is)

module _ (R : ℕ → List (ℤ × ℕ) → List ℤ → Type 0) (show : ShowKeys R) (cadence : Cadence) (lawful : IsHearableUnlike cadence)
    (samples : List ℤ) (low : AreLow samples) where
  sees-still : (past rest : List (ℤ × ℕ)) (z : ℕ) → AreMatched R (past ++ (part_of still MOST_NOISE z ++ rest)) samples
      → (w : ℕ) → length past ≤ 20 * w → 20 * w + 80 ≤ length past + z → sees samples w ≡ None
  sees-still past rest z near w from to =
      sees-silence samples w (sees-part R still MOST_NOISE None show.none past rest samples z w near from to).pair

  quiet-part : (past rest : List (ℤ × ℕ)) (z : ℕ) (a : Option Pair) (k : Known) → HasArrived a k → IsReady a past z
      → AreMatched R (past ++ (part_of still MOST_NOISE z ++ rest)) samples
      → Gives k (between (sees samples) (length past) (length past + z)) (one a) None
  quiet-part past rest z a k arrived ready near = elim ready [
    | inl first ↦
        let all = all-in-range (sees samples) None (windows_in (length past))
        (windows_in (length past + z) - windows_in (length past))
        (λ w low high. sees-still past rest z near w (omega (arith, first.1)) (omega (arith, high))) in
        let run = stays None (between (sees samples) (length past) (length past + z)) all k
        (subst (λ (s : Option Pair). HasArrived s k) first.0 arrived) in
        subst (λ (s : Option Pair). Gives k (between (sees samples) (length past) (length past + z)) (one s) None) (sym first.0) run
    | inr later ↦
        part-turns (sees samples) a None later.0 (length past) z (length past + z) refl (omega (arith, later.1))
        (sees-still past rest z near) k arrived
  ]

  -- a silence, and then a tone
  quiet-tone : (past rest : List (ℤ × ℕ)) (z m : ℕ) (a : Option Pair) (p : Pair) (k : Known) → HasArrived a k
      → IsReady a past z ⊎ ((is_same_label a (Some p) ≡ false) × (cadence.gap_ms * 8 ≤ z))
      → AreMatched R (past ++ (part_of still MOST_NOISE z ++ rest)) samples → needed_of (Some p) * 20 + 80 ≤ m
      → ((w : ℕ) → length past + z ≤ 20 * w → 20 * w + 80 ≤ length past + z + m → sees samples w ≡ Some p)
      → Gives k (between (sees samples) (length past) (length past + z)
      ++ between (sees samples) (length past + z) (length past + z + m)) (one a) (Some p)
  quiet-tone past rest z m a p k arrived ready near long sees-tone =
      let j = sees samples in
      let from : ℕ = length past in
      let to : ℕ = from + z in
      let end : ℕ = to + m in
      elim ready [
        | inl quiet ↦
            let run = quiet-part past rest z a k arrived quiet near in
            let k1 : Known = after_all k (between j from to) in
            let next = part-turns j None (Some p) refl to m end refl long sees-tone k1 run.arrived in
            subst (λ ps. Gives k (between j from to ++ between j to end) ps (Some p)) (append-nil (one a))
            (gives-then k (between j from to) (between j to end) (one a) [] None (Some p) run next)
        | inr short ↦
            pause-turns j a p short.0 from z m (omega (arith, short.1, lawful.gap)) long (sees-still past rest z near) sees-tone
            k arrived
      ]

  from-quiet : (marks : List Mark) → AreKeyed marks → (past : List (ℤ × ℕ)) (z : ℕ) (a : Option Pair) (k : Known)
      → HasArrived a k → IsPaused (cadence.gap_ms * 8) a past z → AreTold (cadence.gap_ms * 8) a (tones_of marks)
      → AreMatched R (past ++ (part_of still MOST_NOISE z ++ disturbable cadence marks)) samples
      → (total : ℕ) → total ≡ length past + z + length (disturbable cadence marks)
      → whole k (between (sees samples) (length past) total) ≡ one a ++ tones_of marks
  from-quiet [] keyed past z a k arrived paused told near total is =
      let j = sees samples in
      let from : ℕ = length past in
      let end : total ≡ from + z = omega (arith, is) in
      let last : whole k (between j from (from + z)) ≡ one a ++ [] = elim paused [
        | inl first ↦
            gives-whole k (between j from (from + z)) (one a) None (quiet-part past [] z a k arrived (inl first) near)
        | inr later ↦
            pause-whole j a from z (omega (arith, later.1, lawful.gap)) (sees-still past [] z near) k arrived
            ∙ sym (append-nil (one a))
      ] in
      subst (λ (n : ℕ). whole k (between j from n) ≡ one a ++ []) (sym end) last
  from-quiet (Trunk t ∷ marks) keyed past z a k arrived paused told near total is =
      let lead : ℕ = cadence.lead_ms * 8 in
      let rest = disturbable cadence marks in
      let pause = bounded MOST_NOISE (silence cadence.lead_ms) in
      let more : IsPaused (cadence.gap_ms * 8) a past (z + lead) = elim paused [
        | inl first ↦ inl first
        | inr later ↦ inr (later.0, omega (arith, later.1))
      ] in
      let pause-long : length pause ≡ lead =
      length-map (silence cadence.lead_ms) (λ x. (x, MOST_NOISE)) ∙ length-replicate lead (pos 0) in
      from-quiet marks keyed.1 past (z + lead) a k arrived more told
      (subst (λ (xs : List (ℤ × ℕ)). AreMatched R (past ++ xs) samples) (lead-goes-on cadence z rest) near) total
      (omega (arith, is, length-append pause rest, pause-long))
  from-quiet (Refused reason count ∷ marks) keyed past z a k arrived paused told near total is =
      from-quiet marks keyed.1 past z a k arrived paused told near total is
  from-quiet (Tone key p ∷ marks) keyed past z a k arrived paused told near total is =
      let j = sees samples in
      let later = disturbable cadence marks in
      let from : ℕ = length past in
      let to : ℕ = from + z in
      let end : ℕ = to + tone_ms cadence key * 8 in
      let tone = has-tone R cadence key p past z later samples near in
      let sees-tone : (w : ℕ) → to ≤ 20 * w → 20 * w + 80 ≤ end → sees samples w ≡ Some p =
      λ w from to. sees-key samples low p w (omega (arith, to, tone.fits))
      (tone-seen R show cadence key p keyed.0.0 keyed.0.1 past z later samples tone w from to) in
      let turned = quiet-tone past ((toned cadence key p ++ gapped cadence) ++ later) z (tone_ms cadence key * 8) a p k arrived
      (told-ready (cadence.gap_ms * 8) a p past z paused told.0) tone.quiet
      (tone-enough cadence lawful key p keyed.0.0 keyed.0.1) sees-tone in
      let k2 : Known = after_all k (between j from to ++ between j to end) in
      let past3 = (past ++ part_of still MOST_NOISE z) ++ toned cadence key p in
      let at3 : length past3 ≡ end = tone.ends in
      let all : total ≡ length past3 + cadence.gap_ms * 8 + length later = omega (arith, is, at3, tone.long) in
      let rest = from-quiet marks keyed.1 past3 (cadence.gap_ms * 8) (Some p) k2 turned.arrived (inr (refl, omega arith)) told.1
      tone.after total all in
      let rest-at : whole k2 (between j end total) ≡ p ∷ tones_of marks =
      subst (λ (n : ℕ). whole k2 (between j n total) ≡ p ∷ tones_of marks) at3 rest in
      let before : end ≤ total = omega (arith, all, at3) in
      let split : between j from total ≡ (between j from to ++ between j to end) ++ between j end total =
      between-split j from end total (omega arith) before
      ∙ ap (λ xs. xs ++ between j end total) (between-split j from to end (omega arith) (omega arith)) in
      ap (λ (xs : List (Option Pair)). whole k xs) split
      ∙ whole-append (between j from to ++ between j to end) (between j end total) k
      ∙ ap (λ (ps : List Pair). ps ++ whole k2 (between j end total)) turned.given
      ∙ ap (λ (ps : List Pair). one a ++ ps) rest-at

-- the pairs that the windows of samples see
pub labels-are : (samples : List ℤ) → map label (sights samples) ≡ between (sees samples) 0 (length samples)
labels-are samples =
    let n : ℕ = windows_in (length samples) in
    let all : n ≡ n - 0 = omega arith in
    map-map label (seen_at samples) (range_with_len 0 n)
    ∙ ap (λ (m : ℕ). map (sees samples) (range_with_len 0 m)) all

-- and those that are heard of them
pub heard-pairs : (samples : List ℤ)
    → pairs_in (heard samples) ≡ gives_all (known silent) (between (sees samples) 0 (length samples))
heard-pairs samples =
    pairs-heard silent (sights samples) ∙ ap (λ xs. gives_all (known silent) xs) (labels-are samples)

-- of samples of which that is known
pub outcome : (R : ℕ → List (ℤ × ℕ) → List ℤ → Type 0) → ShowKeys R → (cadence : Cadence) → IsHearableUnlike cadence
    → (marks : List Mark) → AreKeyed marks → AreTold (cadence.gap_ms * 8) None (tones_of marks) → (samples : List ℤ)
    → AreLow samples → AreMatched R (disturbable cadence marks) samples
    → whole (known silent) (between (sees samples) 0 (length samples)) ≡ tones_of marks
outcome R show cadence lawful marks keyed told samples low matched =
    from-quiet R show cadence lawful samples low marks keyed [] 0 None (known silent)
    (record { sees = refl; sounds = refl; near = inl refl }) (inl (refl, refl)) told matched (length samples)
    (omega (arith, matched.long))
