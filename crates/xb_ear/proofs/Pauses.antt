-- A pause between keys that differ: each is heard, however short the silence in it is.
use Rattle.std.proofs.Common.{◌≡◌, ◌∙◌, ℕ, ◌+◌, ◌<◌, ◌≤◌, Bool, true, false, List, [], ◌∷◌, ◌++◌, length, sym, ap, subst, arith, refl, Option, Some, None, eqb-true, inl, inr, ◌⊎◌}
use Rattle.std.specs.Prelude.{◌==◌, if◌then◌else◌}
use Rattle.std.specs.List.{AllByRecursion}
use Rattle.xb_model.specs.declared.key.Tone.{Tone as Pair}
use Rattle.xb_ear.specs.Hearings.{counted}
use Rattle.xb_ear.specs.LongRuns.{is_same_label, needed_of, one}
use Rattle.xb_ear.proofs.Runs.{Gives, HasArrived, after_all-append, arrives, few-goes, few-not-enough, gives_all-append, needed-range, quiet-edge}
use Rattle.xb_ear.proofs.Steps.{Known, after, after_all, enough, gives, gives_all, joins_after, part_after, whole, whole-append, whole-step}

-- after a window that sees none, what sounded is given, or sounds still
none-keeps : (k : Known) → gives k None ++ one (after k None).sounding ≡ one k.sounding
none-keeps k = by (enough k None) k.sounding
  where
    by : (b : Bool) (s : Option Pair)
        → (if b then (if is_same_label s None then [] else one s) else []) ++ one (if b then None else s) ≡ one s
    by true None = refl
    by true (Some q) = refl
    by false s = refl

whole-silence : (ns : List (Option Pair)) → AllByRecursion (λ l. l ≡ None) ns → (k : Known) → whole k ns ≡ one k.sounding
whole-silence [] all k = refl
whole-silence (n ∷ ns) all k =
    subst (λ (l : Option Pair). whole k (l ∷ ns) ≡ one k.sounding) (sym all.0)
    (whole-step k None ns
    ∙ ap (λ (ps : List Pair). gives k None ++ ps) (whole-silence ns all.1 (after k None)) ∙ none-keeps k)

-- an edge, and silence at the end: what sounded is given, or sounds still
pub pause-ends : (a : Option Pair) (es ns : List (Option Pair)) → length es ≤ 4 → AllByRecursion (λ l. l ≡ None) ns
    → (k : Known) → HasArrived a k → whole k (es ++ ns) ≡ one a
pause-ends a es ns few silent k arrived =
    let first = quiet-edge a es few k arrived in
    let k1 : Known = after_all k es in
    whole-append es ns k ∙ ap (λ (ps : List Pair). ps ++ whole k1 ns) first.none ∙ whole-silence ns silent k1
    ∙ ap (λ (s : Option Pair). one s) first.loose.sounds

-- what sounds is not p
abbrev IsOther : Pair → Known → Type 0
IsOther p k = is_same_label k.sounding (Some p) ≡ false

none-other : (p : Pair) (k : Known) → IsOther p k → IsOther p (after k None)
none-other p k other = by (enough k None)
  where
    by : (b : Bool) → is_same_label (if b then None else k.sounding) (Some p) ≡ false
    by true = refl
    by false = other

-- what sounds is given once p sounds
abbrev Ends : Pair → List (Option Pair) → Known → Type 0
Ends p ls k = Gives k ls (one k.sounding) (Some p)

ends-later : (p : Pair) (l : Option Pair) (ls : List (Option Pair)) (k : Known)
    → gives k l ++ one (after k l).sounding ≡ one k.sounding → Ends p ls (after k l) → Ends p (l ∷ ls) k
ends-later p l ls k same later = record {
  given = ap (λ (ps : List Pair). gives k l ++ ps) later.given ∙ same;
  arrived = later.arrived;
}

-- so it is over silence
over-silence : (p : Pair) (rest : List (Option Pair)) → ((k : Known) → 0 < k.away → IsOther p k → Ends p rest k)
    → (ns : List (Option Pair)) → AllByRecursion (λ l. l ≡ None) ns → (k : Known) → (0 < k.away) ⊎ (0 < length ns)
    → IsOther p k → Ends p (ns ++ rest) k
over-silence p rest next [] all k some other = elim some [
  | inl away ↦ next k away other
  | inr none ↦ absurd (omega (arith, none))
]
over-silence p rest next (n ∷ ns) all k some other =
    let away : 0 < counted k.away = omega arith in
    subst (λ (l : Option Pair). Ends p (l ∷ (ns ++ rest)) k) (sym all.0)
    (ends-later p None (ns ++ rest) k (none-keeps k)
    (over-silence p rest next ns all.1 (after k None) (inl away) (none-other p k other)))

-- few windows in a row saw a pair, or some saw none since
abbrev IsFew : ℕ → Known → Type 0
IsFew m k = (k.part ≤ m) ⊎ (0 < k.away)

few-after : (q : Pair) (m : ℕ) (k : Known) → IsFew m k → part_after k (Some q) ≤ m + 1
few-after q m k few = by (joins_after k (Some q)) (k.away == 0) refl
  where
    by : (b c : Bool) → (k.away == 0) ≡ c → (if b then (if c then counted k.part else 1) else 1) ≤ m + 1
    by true true e = elim few [
      | inl small ↦ omega (arith, small)
      | inr gone ↦ absurd (omega (arith, gone, eqb-true _ _ e))
    ]
    by true false e = omega arith
    by false c e = omega arith

-- and over an edge, whatever its windows see
over-edge : (p : Pair) (rest : List (Option Pair)) → ((k : Known) → IsOther p k → Ends p rest k)
    → (es : List (Option Pair)) (m : ℕ) (k : Known) → IsFew m k → m + length es < 5 → IsOther p k → Ends p (es ++ rest) k
over-edge p rest next [] m k few short other = next k other
over-edge p rest next (None ∷ es) m k few short other =
    let away : 0 < counted k.away = omega arith in
    ends-later p None (es ++ rest) k (none-keeps k)
    (over-edge p rest next es (m + 1) (after k None) (inr away) (omega (arith, short)) (none-other p k other))
over-edge p rest next (Some q ∷ es) m k few short other =
    let row : part_after k (Some q) ≤ m + 1 = few-after q m k few in
    let goes = few-goes k.sounding k refl (Some q) (few-not-enough k q (omega (arith, row, short))) in
    let keeps : gives k (Some q) ++ one (after k (Some q)).sounding ≡ one k.sounding =
    ap (λ (ps : List Pair). ps ++ one (after k (Some q)).sounding) goes.1 ∙ ap (λ (s : Option Pair). one s) goes.0 in
    ends-later p (Some q) (es ++ rest) k keeps
    (over-edge p rest next es (m + 1) (after k (Some q)) (inl row) (omega (arith, short))
    (ap (λ (s : Option Pair). is_same_label s (Some p)) goes.0 ∙ other))

-- an edge, silence, another edge, and a run of p that is long enough: what sounded ends
pub pauses : (a : Option Pair) (p : Pair) → is_same_label a (Some p) ≡ false → (es ns fs ls : List (Option Pair))
    → length es ≤ 4 → AllByRecursion (λ l. l ≡ None) ns → 0 < length ns → length fs ≤ 4
    → AllByRecursion (λ l. l ≡ Some p) ls → needed_of (Some p) ≤ length ls → (k : Known) → HasArrived a k
    → Gives k (es ++ (ns ++ (fs ++ ls))) (one a) (Some p)
pauses a p differ es ns fs ls few silent some few_again all long k arrived =
    let first = quiet-edge a es few k arrived in
    let rest = ns ++ (fs ++ ls) in
    let k1 : Known = after_all k es in
    let other : IsOther p k1 = ap (λ (s : Option Pair). is_same_label s (Some p)) first.loose.sounds ∙ differ in
    let ends : Ends p rest k1 = over-silence p (fs ++ ls) over ns silent k1 (inr some) other in
    record {
      given =
          gives_all-append k es rest ∙ ap (λ (ps : List Pair). ps ++ gives_all k1 rest) first.none ∙ ends.given
          ∙ ap (λ (s : Option Pair). one s) first.loose.sounds;
      arrived = subst (λ (s : Known). HasArrived (Some p) s) (sym (after_all-append k es rest)) ends.arrived;
    }
  where
    tone : (k : Known) → IsOther p k → Ends p ls k
    tone k other =
        let least : 0 < needed_of (Some p) = omega (arith, (needed-range (Some p)).0) in
        arrives k.sounding p other ls all 0 k refl least (inl refl) (omega (arith, long))

    over : (k : Known) → 0 < k.away → IsOther p k → Ends p (fs ++ ls) k
    over k away other = over-edge p ls tone fs 0 k (inr away) (omega (arith, few_again)) other
