-- What a silence and a tone leave of what is heard.
use Rattle.std.proofs.Common.{◌≡◌, ◌∙◌, ℕ, ◌+◌, ◌-◌, ◌*◌, ◌/◌, ◌≤◌, List, [], ◌∷◌, ◌++◌, map, fold, length, sym, ap, subst, arith, refl, ℤ, Option, Some, None, append_assoc}
use Rattle.std.specs.List.{AllByRecursion, range_with_len}
use Rattle.std.proofs.lemmas.List.{length-map}
use Rattle.std.proofs.lemmas.List.FromFn.{length-map-range_with_len}
use Rattle.std.proofs.lemmas.List.Sums.{fold-append}
use Rattle.std.proofs.lemmas.Simd.{map-map}
use Rattle.xb_model.specs.declared.key.Tone.{Tone as Pair}
use Rattle.xb_model.specs.Image.{image_from}
use Rattle.xb_sound.specs.declared.cadence.Cadence.{Cadence}
use Rattle.xb_ear.specs.declared.sight.Sight.{Sight}
use Rattle.xb_ear.specs.declared.hearing.Heard.{Heard}
use Rattle.xb_ear.specs.declared.hearing.Hearing.{Hearing}
use Rattle.xb_ear.specs.Ears.{seen_at, windows_in}
use Rattle.xb_ear.specs.HeardKeys.{MOST_NOISE}
use Rattle.xb_ear.specs.Hearings.{hearer, listed, sounds}
use Rattle.xb_ear.specs.LongRuns.{label, needed_of}
use Rattle.xb_ear.proofs.Fading.{sees-silence}
use Rattle.xb_ear.proofs.HeardKeys.{disturbed-show}
use Rattle.xb_ear.proofs.Runs.{Gives, HasArrived, quiet-edge, stays}
use Rattle.xb_ear.proofs.Segments.{AreMatched, Within, all-in-range, between, part-turns, part_of, range-split, sees, sees-part}
use Rattle.xb_ear.proofs.Shown.{still}
use Rattle.xb_ear.proofs.Steps.{Known, after_all, gives_all, known, known-next, pair_heard, pairs-heard}
use Rattle.xb_model.proofs.Images.{image_from-append}
use Rattle.xb_laws.proofs.Sounding.{FirstLasts, IsOpen, IsOrderly, Lasts, all-counted, first-lasts, tone-lasts}
use Rattle.xb_laws.proofs.Places.{AreMore, first_within, none-more, one-more, past_within}

-- what is given of windows, and what sounds at their end
abbrev pub keys_from : Hearing → List (Option Sight) → List Heard
keys_from h js = image_from hearer h js ++ listed (fold hearer.next h js).sounding

pub keys-split : (h : Hearing) (xs ys : List (Option Sight))
    → keys_from h (xs ++ ys) ≡ image_from hearer h xs ++ keys_from (fold hearer.next h xs) ys
keys-split h xs ys =
    let mid = fold hearer.next h xs in
    ap (λ (ks : List Heard). ks ++ listed (fold hearer.next h (xs ++ ys)).sounding) (image_from-append hearer h xs ys)
    ∙ ap (λ (end : Hearing). (image_from hearer h xs ++ image_from hearer mid ys) ++ listed end.sounding)
    (fold-append hearer.next h xs ys)
    ∙ append_assoc (image_from hearer h xs) (image_from hearer mid ys) (listed (fold hearer.next mid ys).sounding)

known-all : (js : List (Option Sight)) (h : Hearing) → known (fold hearer.next h js) ≡ after_all (known h) (map label js)
known-all [] h = refl
known-all (j ∷ js) h =
    known-all js (hearer.next h j) ∙ ap (λ (k : Known). after_all k (map label js)) (known-next h j)

pub not-sounding : (key : Option Heard) → label (sounds key) ≡ None → key ≡ None
not-sounding None none = refl
not-sounding (Some key) none = absurd (cc)

none-since : (first : ℕ) (key : Option Heard) → label (sounds key) ≡ None → IsOpen first key
none-since first None none = tt
none-since first (Some key) none = absurd (cc)

-- the windows from a sample on, up to another one
abbrev pub views : List ℤ → ℕ → ℕ → List (Option Sight)
views samples a b = map (seen_at samples) (range_with_len (windows_in a) (windows_in b - windows_in a))

pub views-split : (samples : List ℤ) (a b c : ℕ) → a ≤ b → b ≤ c
    → views samples a c ≡ views samples a b ++ views samples b c
views-split samples a b c ab bc =
    let first : windows_in a ≤ windows_in b = omega (arith, ab) in
    let second : windows_in b ≤ windows_in c = omega (arith, bc) in
    let place : windows_in a + (windows_in b - windows_in a) ≡ windows_in b = omega (arith, first) in
    range-split (seen_at samples) (windows_in a) (windows_in b - windows_in a) (windows_in c - windows_in b)
    (windows_in c - windows_in a) (omega (arith, first, second))
    ∙ ap (λ (i : ℕ). views samples a b ++ map (seen_at samples) (range_with_len i (windows_in c - windows_in b))) place

labels-seen : (samples : List ℤ) (i n : ℕ)
    → map label (map (seen_at samples) (range_with_len i n)) ≡ map (sees samples) (range_with_len i n)
labels-seen samples i n = map-map label (seen_at samples) (range_with_len i n)

-- what windows give, by their pairs
record Leads (h : Hearing) (js : List (Option Sight)) (what : List Pair) (b : Option Pair) : Type 0 where
  given : map pair_heard (image_from hearer h js) ≡ what
  arrived : HasArrived b (known (fold hearer.next h js))

leads : (samples : List ℤ) (h : Hearing) (from to : ℕ) (what : List Pair) (b : Option Pair)
    → Gives (known h) (between (sees samples) from to) what b → Leads h (views samples from to) what b
leads samples h from to what b gives =
    let i : ℕ = windows_in from in
    let n : ℕ = windows_in to - windows_in from in
    let js = views samples from to in
    record {
      given =
          pairs-heard h js ∙ ap (λ ls. gives_all (known h) ls) (labels-seen samples i n) ∙ gives.given;
      arrived = subst (λ (k : Known). HasArrived b k)
          (sym (known-all js h ∙ ap (λ ls. after_all (known h) ls) (labels-seen samples i n))) gives.arrived;
    }

-- before the first tone nothing sounds; and a tone sounds until the silence after it
abbrev pub IsReady : Option Pair → ℕ → List (ℤ × ℕ) → ℕ → Hearing → Type 0
IsReady None first past z h = length past ≡ 0
IsReady (Some p) first past z h = (240 ≤ z) × Lasts first h.at h.sounding

-- after so many samples
pub record HasHeard (a : Option Pair) (from : ℕ) (h : Hearing) : Type 0 where
  pub arrived : HasArrived a (known h)
  pub orderly : IsOrderly h
  pub at : h.at ≡ past_within from

has-heard : (samples : List ℤ) (a b : Option Pair) (h : Hearing) (from to : ℕ) (what : List Pair) → HasHeard a from h
    → from ≤ to → Leads h (views samples from to) what b → HasHeard b to (fold hearer.next h (views samples from to))
has-heard samples a b h from to what has below led =
    let counted = all-counted (views samples from to) h has.orderly in
    let long : length (views samples from to) ≡ windows_in to - windows_in from =
    length-map-range_with_len (seen_at samples) (windows_in from) (windows_in to - windows_in from) in
    let more : windows_in from ≤ windows_in to = omega (arith, below) in
    record { arrived = led.arrived; orderly = counted.orderly; at = omega (arith, counted.at, has.at, long, more) }

module _ (cadence : Cadence) (samples : List ℤ) where
  sees-still : (past rest : List (ℤ × ℕ)) (z : ℕ)
      → AreMatched Within (past ++ (part_of still MOST_NOISE z ++ rest)) samples → (w : ℕ) → length past ≤ 20 * w
      → 20 * w + 80 ≤ length past + z → sees samples w ≡ None
  sees-still past rest z near w from to =
      sees-silence samples w
      (sees-part Within still MOST_NOISE None disturbed-show.none past rest samples z w near from to).pair

  -- a silence ends what sounded
  pub record Silence (a : Option Pair) (first from to : ℕ) (h : Hearing) : Type 0 where
    pub keys : AreMore cadence a first (past_within from) to [] (image_from hearer h (views samples from to))
    pub heard : HasHeard None to (fold hearer.next h (views samples from to))

  pub silence-ends : (past rest : List (ℤ × ℕ)) (z : ℕ) (a : Option Pair) (first : ℕ) (h : Hearing)
      → HasHeard a (length past) h → IsReady a first past z h
      → AreMatched Within (past ++ (part_of still MOST_NOISE z ++ rest)) samples
      → Silence a first (length past) (length past + z) h
  silence-ends past rest z None first h has ready near =
      let from : ℕ = length past in
      let all = all-in-range (sees samples) None (windows_in from) (windows_in (from + z) - windows_in from)
      (λ w above below. sees-still past rest z near w (omega (arith, ready)) (omega (arith, below))) in
      let led = leads samples h from (from + z) [] None
      (stays None (between (sees samples) from (from + z)) all (known h) has.arrived) in
      record {
        keys = none-more cadence first (past_within from) (from + z) (image_from hearer h (views samples from (from + z)))
            led.given;
        heard = has-heard samples None None h from (from + z) [] has (omega arith) led;
      }
  silence-ends past rest z (Some p) first h has ready near =
      let from : ℕ = length past in
      let js = views samples from (from + z) in
      let led = leads samples h from (from + z) (p ∷ []) None
      (part-turns (sees samples) (Some p) None refl from z (from + z) refl (omega (arith, ready.0))
      (sees-still past rest z near) (known h) has.arrived) in
      let lasts : FirstLasts first h.at (image_from hearer h js) =
      first-lasts first h.at js h ready.1 (omega arith) has.orderly.at in
      record {
        keys = one-more cadence p first (past_within from) (from + z) (image_from hearer h js) led.given
            (subst (λ (i : ℕ). FirstLasts first i (image_from hearer h js)) has.at lasts);
        heard = has-heard samples (Some p) None h from (from + z) (p ∷ []) has (omega arith) led;
      }

  -- a tone after silence
  pub record Sounds (p : Pair) (from to : ℕ) (h : Hearing) : Type 0 where
    pub none : image_from hearer h (views samples from to) ≡ []
    pub heard : HasHeard (Some p) to (fold hearer.next h (views samples from to))
    pub lasts : Lasts (first_within from) (fold hearer.next h (views samples from to)).at
        (fold hearer.next h (views samples from to)).sounding

  pub tone-sounds : (p : Pair) (from m : ℕ) (h : Hearing) → HasHeard None from h → needed_of (Some p) * 20 + 80 ≤ m
      → ((w : ℕ) → from ≤ 20 * w → 20 * w + 80 ≤ from + m → sees samples w ≡ Some p) → Sounds p from (from + m) h
  tone-sounds p from m h has long sees-tone =
      let to : ℕ = from + m in
      let js = views samples from to in
      let led = leads samples h from to [] (Some p)
      (part-turns (sees samples) None (Some p) refl from m to refl long sees-tone (known h) has.arrived) in
      record {
        none = nothing (image_from hearer h js) led.given;
        heard = has-heard samples None (Some p) h from to [] has (omega arith) led;
        lasts = in-tone;
      }
    where
      nothing : (keys : List Heard) → map pair_heard keys ≡ [] → keys ≡ []
      nothing [] none = refl
      nothing (k ∷ keys) none = absurd (cc)

      in-tone : Lasts (first_within from) (fold hearer.next h (views samples from (from + m))).at
          (fold hearer.next h (views samples from (from + m))).sounding
      in-tone =
          let i : ℕ = windows_in from in
          let e : ℕ = (from + 19) / 20 - i in
          let n : ℕ = windows_in (from + m) - i - e in
          let f = seen_at samples in
          let es = map f (range_with_len i e) in
          let ns = map f (range_with_len (i + e) n) in
          let all : windows_in (from + m) - i ≡ e + n = omega (arith, long) in
          let parts : views samples from (from + m) ≡ es ++ ns = range-split f i e n (windows_in (from + m) - i) all in
          let es-long : length es ≡ e = length-map-range_with_len f i e in
          let ns-long : length ns ≡ n = length-map-range_with_len f (i + e) n in
          let labels-long : length (map label es) ≡ e = length-map es label ∙ es-long in
          let quiet = quiet-edge None (map label es) (omega (arith, labels-long)) (known h) has.arrived in
          let h1 : Hearing = fold hearer.next h es in
          let silent_yet : label (sounds h1.sounding) ≡ None =
          ap (λ (k : Known). k.sounding) (known-all es h) ∙ quiet.loose.sounds in
          let counted = all-counted es h has.orderly in
          let at : h1.at ≡ first_within from = omega (arith, counted.at, has.at, es-long) in
          let all-see : AllByRecursion (λ l. l ≡ Some p) (map label ns) =
          subst (λ ls. AllByRecursion (λ l. l ≡ Some p) ls) (sym (labels-seen samples (i + e) n))
          (all-in-range (sees samples) (Some p) (i + e) n
          (λ w above below. sees-tone w (omega (arith, above)) (omega (arith, below, long)))) in
          let run = tone-lasts p ns h1 counted.orderly (none-since h1.at h1.sounding silent_yet) all-see
          (omega (arith, ns-long, long)) in
          let end : fold hearer.next h (views samples from (from + m)) ≡ fold hearer.next h1 ns =
          ap (λ js. fold hearer.next h js) parts ∙ fold-append hearer.next h es ns in
          subst (λ (x : Hearing). Lasts (first_within from) x.at x.sounding) (sym end)
          (subst (λ (b : ℕ). Lasts b (fold hearer.next h1 ns).at (fold hearer.next h1 ns).sounding) at run)
