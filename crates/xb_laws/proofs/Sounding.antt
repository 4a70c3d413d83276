-- Where what sounds began, and where it last counted, window by window.
use Rattle.std.proofs.Common.{◌≡◌, ◌∙◌, ℕ, ◌+◌, ◌-◌, ◌≤◌, ◌^◌, Bool, true, false, ◌&&◌, List, [], ◌∷◌, ◌++◌, map, fold, length, min, sym, ap, subst, arith, refl, Option, Some, None, eq-eqb}
use Rattle.std.specs.Prelude.{◌||◌, ◌==◌, if◌then◌else◌, nat_le}
use Rattle.std.specs.List.{AllByRecursion}
use Rattle.std.proofs.lemmas.Bool.{false≢true, le-leb}
use Rattle.xb_model.specs.declared.key.Tone.{Tone as Pair}
use Rattle.xb_model.specs.Image.{image_from}
use Rattle.xb_ear.specs.declared.sight.Sight.{Sight}
use Rattle.xb_ear.specs.declared.hearing.Heard.{Heard}
use Rattle.xb_ear.specs.declared.hearing.Hearing.{Hearing}
use Rattle.xb_ear.specs.declared.hearing.TheConstants.{PART_WINDOWS}
use Rattle.xb_ear.specs.Hearings.{begun, counted, counts, ended, goes_on, hearer, is_same, joins, lengthened, listed, now, run_on, settled, sounds, strongest}
use Rattle.xb_ear.specs.LongRuns.{is_same_label, label, needed_of}
use Rattle.xb_ear.proofs.Runs.{label-refl, needed-range}
use Rattle.xb_ear.proofs.Steps.{Known, after, count_after, joins_after, known, known-next, part_after}

-- what holds of both holds of either
either : (P : Hearing → Type 0) (b : Bool) (x y : Hearing) → P x → P y → P (if b then x else y)
either P true x y px py = px
either P false x y px py = py

-- a run with one window more, and a new one
abbrev joined_on : Hearing → Sight → Hearing
joined_on h s = record h {
  seen = strongest h.seen (Some s);
  count = counted h.count;
  part = if h.away == 0 then counted h.part else 1;
  away = 0;
  at = counted h.at;
}

abbrev fresh_on : Hearing → Sight → Hearing
fresh_on h s = record h { seen = Some s; first = h.at; count = 1; part = 1; away = 0; at = counted h.at }

-- a key that goes on, and one that begins or ends
abbrev longer_on : Hearing → Option Sight → Hearing
longer_on r j = record r { sounding = lengthened r r.sounding (now r j) }

abbrev new_on : Hearing → Option Sight → Hearing
new_on r j = record r { sounding = begun r (now r j) }

run-is : (P : Hearing → Type 0) (h : Hearing) (s : Sight) → P (joined_on h s) → P (fresh_on h s) → P (run_on h (Some s))
run-is P h s px py = either P (joins h (Some s)) (joined_on h s) (fresh_on h s) px py

settled-is : (P : Hearing → Type 0) (r : Hearing) (j : Option Sight) → P (longer_on r j) → P (new_on r j) → P r
    → P (settled r j)
settled-is P r j longer new same =
    either P (counts r j) (if goes_on r j then longer_on r j else new_on r j) r
    (either P (goes_on r j) (longer_on r j) (new_on r j) longer new) same

run-at : (h : Hearing) (j : Option Sight) → (run_on h j).at ≡ counted h.at
run-at h None = refl
run-at h (Some s) = run-is (λ r. r.at ≡ counted h.at) h s refl refl

run-sounding : (h : Hearing) (j : Option Sight) → (run_on h j).sounding ≡ h.sounding
run-sounding h None = refl
run-sounding h (Some s) = run-is (λ r. r.sounding ≡ h.sounding) h s refl refl

run-first : (h : Hearing) (j : Option Sight) → h.first ≤ h.at → (run_on h j).first ≤ h.at
run-first h None below = below
run-first h (Some s) below = run-is (λ r. r.first ≤ h.at) h s below (omega arith)

next-at : (h : Hearing) (j : Option Sight) → (hearer.next h j).at ≡ counted h.at
next-at h j =
    let r = run_on h j in
    settled-is (λ s. s.at ≡ r.at) r j refl refl refl ∙ run-at h j

next-first : (h : Hearing) (j : Option Sight) → (hearer.next h j).first ≡ (run_on h j).first
next-first h j = let r = run_on h j in settled-is (λ s. s.first ≡ r.first) r j refl refl refl

next-count : (h : Hearing) (j : Option Sight) → (hearer.next h j).count ≡ (run_on h j).count
next-count h j = let r = run_on h j in settled-is (λ s. s.count ≡ r.count) r j refl refl refl

next-part : (h : Hearing) (j : Option Sight) → (hearer.next h j).part ≡ (run_on h j).part
next-part h j = let r = run_on h j in settled-is (λ s. s.part ≡ r.part) r j refl refl refl

next-seen : (h : Hearing) (j : Option Sight) → (hearer.next h j).seen ≡ (run_on h j).seen
next-seen h j = let r = run_on h j in settled-is (λ s. s.seen ≡ r.seen) r j refl refl refl

-- no run begins after the last window, and the count of windows stays in its range
pub record IsOrderly (h : Hearing) : Type 0 where
  pub first : h.first ≤ h.at
  pub at : h.at ≤ 2 ^ 64 - 1

next-orderly : (h : Hearing) (j : Option Sight) → IsOrderly h → IsOrderly (hearer.next h j)
next-orderly h j orderly = record {
  first = omega (arith, next-first h j, run-first h j orderly.first, next-at h j, orderly.at);
  at = omega (arith, next-at h j);
}

-- so after windows
pub record AreCounted (h : Hearing) (js : List (Option Sight)) : Type 0 where
  pub orderly : IsOrderly (fold hearer.next h js)
  pub at : (fold hearer.next h js).at ≡ min (h.at + length js) (2 ^ 64 - 1)

pub all-counted : (js : List (Option Sight)) (h : Hearing) → IsOrderly h → AreCounted h js
all-counted [] h orderly = record { orderly = orderly; at = omega (arith, orderly.at) }
all-counted (j ∷ js) h orderly =
    let rest = all-counted js (hearer.next h j) (next-orderly h j orderly) in
    record { orderly = rest.orderly; at = omega (arith, rest.at, next-at h j, orderly.at) }

-- a key that began no later than one window, and whose last one is no earlier than another
abbrev pub Lasts : ℕ → ℕ → Option Heard → Type 0
Lasts first past None = ⊥
Lasts first past (Some key) = (key.first ≤ first) × (past ≤ key.past)

-- so the first of keys, if there is one
abbrev pub FirstLasts : ℕ → ℕ → List Heard → Type 0
FirstLasts first past [] = Unit {0}
FirstLasts first past (key ∷ keys) = (key.first ≤ first) × (past ≤ key.past)

-- a key that sounds is told as it is, or goes on
window-lasts : (first past : ℕ) (r : Hearing) (j : Option Sight) (keys : List Heard) → Lasts first past r.sounding
    → past ≤ r.at → (Lasts first past (settled r j).sounding → FirstLasts first past keys)
    → FirstLasts first past (listed (ended r j) ++ keys)
window-lasts first past r j keys lasts late later = by (counts r j) (goes_on r j) later
  where
    longer : (key : Option Heard) (s : Option Sight) → Lasts first past key → Lasts first past (lengthened r key s)
    longer None s lasts = absurd lasts
    longer (Some key) None lasts = lasts
    longer (Some key) (Some s) lasts = (lasts.0, late)

    told : (key : Option Heard) → Lasts first past key → FirstLasts first past (listed key ++ keys)
    told None lasts = absurd lasts
    told (Some key) lasts = lasts

    by : (b c : Bool)
        → (Lasts first past (if b then (if c then longer_on r j else new_on r j) else r).sounding
        → FirstLasts first past keys)
        → FirstLasts first past (listed (if b then (if c then None else r.sounding) else None) ++ keys)
    by true true later = later (longer r.sounding (now r j) lasts)
    by true false later = told r.sounding lasts
    by false c later = later lasts

pub first-lasts : (first past : ℕ) (js : List (Option Sight)) (h : Hearing) → Lasts first past h.sounding
    → past ≤ h.at → past ≤ 2 ^ 64 - 1 → FirstLasts first past (image_from hearer h js)
first-lasts first past [] h lasts late few = tt
first-lasts first past (j ∷ js) h lasts late few =
    window-lasts first past (run_on h j) j (image_from hearer (hearer.next h j) js)
    (subst (λ (key : Option Heard). Lasts first past key) (sym (run-sounding h j)) lasts)
    (omega (arith, run-at h j, late, few))
    (λ still. first-lasts first past js (hearer.next h j) still (omega (arith, next-at h j, late, few)) few)

-- what sounds, if anything does, began no later than a window
abbrev pub IsOpen : ℕ → Option Heard → Type 0
IsOpen first None = Unit {0}
IsOpen first (Some key) = key.first ≤ first

settled-open : (first : ℕ) (r : Hearing) (s : Sight) → IsOpen first r.sounding → r.first ≤ first
    → IsOpen first (settled r (Some s)).sounding
settled-open first r s since below =
    settled-is (λ h. IsOpen first h.sounding) r (Some s) (longer r.sounding r.seen since) (new r.seen) since
  where
    longer : (key : Option Heard) (x : Option Sight) → IsOpen first key → IsOpen first (lengthened r key x)
    longer None x since = tt
    longer (Some key) None since = since
    longer (Some key) (Some x) since = since

    new : (x : Option Sight) → IsOpen first (begun r x)
    new None = tt
    new (Some x) = below

settled-lasts : (first : ℕ) (r : Hearing) (s : Sight) → IsOpen first r.sounding → r.first ≤ first
    → label r.seen ≡ Some s.pair → counts r (Some s) ≡ true → Lasts first r.at (settled r (Some s)).sounding
settled-lasts first r s since below sees counts-now = by (counts r (Some s)) (goes_on r (Some s)) counts-now refl
  where
    longer : (key : Option Heard) (x : Option Sight) → is_same (sounds key) (Some s) ≡ true → label x ≡ Some s.pair
        → IsOpen first key → Lasts first r.at (lengthened r key x)
    longer None x same sees since = absurd (false≢true same)
    longer (Some key) None same sees since = absurd (cc)
    longer (Some key) (Some x) same sees since = (since, omega arith)

    new : (x : Option Sight) → label x ≡ Some s.pair → Lasts first r.at (begun r x)
    new None sees = absurd (cc)
    new (Some x) sees = (below, omega arith)

    by : (b c : Bool) → b ≡ true → goes_on r (Some s) ≡ c
        → Lasts first r.at (if b then (if c then longer_on r (Some s) else new_on r (Some s)) else r).sounding
    by true true e goes = longer r.sounding r.seen goes sees since
    by true false e goes = new r.seen sees
    by false c e goes = absurd (false≢true e)

-- the last m windows at least saw p; its run began no later than a window; and it sounds, once it is long enough
record IsInTone (p : Pair) (first m : ℕ) (h : Hearing) : Type 0 where
  sees : label h.seen ≡ Some p
  near : h.away ≡ 0
  count : min m 18 ≤ h.count
  part : min m 18 ≤ h.part
  begins : h.first ≤ first
  since : IsOpen first h.sounding
  lasts : needed_of (Some p) ≤ m → Lasts first h.at h.sounding

one-more : (h : Hearing) (s : Sight) (first m : ℕ) → min (m + 1) 18 ≤ count_after (known h) (Some s.pair)
    → min (m + 1) 18 ≤ part_after (known h) (Some s.pair) → (run_on h (Some s)).first ≤ first → IsOpen first h.sounding
    → IsInTone s.pair first (m + 1) (hearer.next h (Some s))
one-more h s first m count part begins since =
    let k = known h in
    let l : Option Pair = Some s.pair in
    let r = run_on h (Some s) in
    let n = hearer.next h (Some s) in
    let next : known n ≡ after k l = known-next h (Some s) in
    let sees : label n.seen ≡ l = ap (λ (x : Known). x.seen) next in
    let count-is : n.count ≡ count_after k l = ap (λ (x : Known). x.count) next in
    let part-is : n.part ≡ part_after k l = ap (λ (x : Known). x.part) next in
    let near : n.away ≡ 0 = ap (λ (x : Known). x.away) next in
    let since_now : IsOpen first r.sounding =
    subst (λ (key : Option Heard). IsOpen first key) (sym (run-sounding h (Some s))) since in
    let sees-now : label r.seen ≡ l = ap (λ (x : Option Sight). label x) (sym (next-seen h (Some s))) ∙ sees in
    let at-is : r.at ≡ n.at = run-at h (Some s) ∙ sym (next-at h (Some s)) in
    let need : ℕ = needed_of l in
    record {
      sees = sees;
      near = near;
      count = omega (arith, count-is, count);
      part = omega (arith, part-is, part);
      begins = omega (arith, next-first h (Some s), begins);
      since = settled-open first r s since_now begins;
      lasts = λ long.
          let range : (8 ≤ need) × (need ≤ 18) = needed-range l in
          let row : 5 ≤ r.part = omega (arith, next-part h (Some s), part-is, part, range.0, long) in
          let all : need ≤ r.count = omega (arith, next-count h (Some s), count-is, count, range.1, long) in
          let yes : counts r (Some s) ≡ true =
          ap (λ (b : Bool). b && nat_le need r.count) (le-leb PART_WINDOWS r.part (omega (arith, row)))
          ∙ le-leb need r.count all in
          subst (λ (i : ℕ). Lasts first i n.sounding) at-is (settled-lasts first r s since_now begins sees-now yes);
    }

same-sight : (x : Option Sight) (s : Sight) → label x ≡ Some s.pair → is_same x (Some s) ≡ true
same-sight None s sees = absurd (cc)
same-sight (Some x) s sees = ap (λ (l : Option Pair). is_same_label l (Some s.pair)) sees ∙ label-refl (Some s.pair)

-- the run goes on
goes-on : (h : Hearing) (s : Sight) (first m : ℕ) → IsInTone s.pair first m h
    → IsInTone s.pair first (m + 1) (hearer.next h (Some s))
goes-on h s first m tone =
    let near : (h.away == 0) ≡ true = eq-eqb h.away 0 tone.near in
    let joined : joins h (Some s) ≡ true =
    ap (λ (b : Bool). b && ((h.away == 0) || nat_le PART_WINDOWS h.part)) (same-sight h.seen s tone.sees)
    ∙ ap (λ (b : Bool). b || nat_le PART_WINDOWS h.part) near in
    let joined-known : joins_after (known h) (Some s.pair) ≡ true =
    ap (λ (l : Option Pair). is_same_label l (Some s.pair) && ((h.away == 0) || nat_le PART_WINDOWS h.part)) tone.sees
    ∙ ap (λ (b : Bool). b && ((h.away == 0) || nat_le PART_WINDOWS h.part)) (label-refl (Some s.pair))
    ∙ ap (λ (b : Bool). b || nat_le PART_WINDOWS h.part) near in
    let count : count_after (known h) (Some s.pair) ≡ counted h.count =
    ap (λ (b : Bool). if b then counted h.count else 1) joined-known in
    let part : part_after (known h) (Some s.pair) ≡ counted h.part =
    ap (λ (b : Bool). if b then (if h.away == 0 then counted h.part else 1) else 1) joined-known
    ∙ ap (λ (b : Bool). if b then counted h.part else 1) near in
    let first-is : (run_on h (Some s)).first ≡ h.first =
    ap (λ (b : Bool). (if b then joined_on h s else fresh_on h s).first) joined in
    one-more h s first m (omega (arith, count, tone.count)) (omega (arith, part, tone.part))
    (omega (arith, first-is, tone.begins)) tone.since

pair-is : (s : Sight) (p : Pair) → Some s.pair ≡ Some p → s.pair ≡ p
pair-is s p e = cc

window-on : (p : Pair) (first m : ℕ) (h : Hearing) (j : Option Sight) → label j ≡ Some p → IsInTone p first m h
    → IsInTone p first (m + 1) (hearer.next h j)
window-on p first m h None sees tone = absurd (cc)
window-on p first m h (Some s) sees tone =
    let is = pair-is s p sees in
    subst (λ (q : Pair). IsInTone q first (m + 1) (hearer.next h (Some s))) is
    (goes-on h s first m (subst (λ (q : Pair). IsInTone q first m h) (sym is) tone))

windows-on : (p : Pair) (first : ℕ) (js : List (Option Sight)) (m : ℕ) (h : Hearing) → IsInTone p first m h
    → AllByRecursion (λ l. l ≡ Some p) (map label js) → IsInTone p first (m + length js) (fold hearer.next h js)
windows-on p first [] m h tone all =
    let same : m ≡ m + 0 = omega arith in
    subst (λ (n : ℕ). IsInTone p first n h) same tone
windows-on p first (j ∷ js) m h tone all =
    let same : m + 1 + length js ≡ m + length (j ∷ js) = omega arith in
    subst (λ (n : ℕ). IsInTone p first n (fold hearer.next (hearer.next h j) js)) same
    (windows-on p first js (m + 1) (hearer.next h j) (window-on p first m h j all.0 tone) all.1)

-- a count is one at least
first-window : (h : Hearing) (s : Sight) → IsOrderly h → IsOpen h.at h.sounding
    → IsInTone s.pair h.at (0 + 1) (hearer.next h (Some s))
first-window h s orderly since =
    one-more h s h.at 0 (counts-one (joins_after (known h) (Some s.pair)) (h.away == 0)).0
    (counts-one (joins_after (known h) (Some s.pair)) (h.away == 0)).1 (run-first h (Some s) orderly.first) since
  where
    counts-one : (b c : Bool) → (min (0 + 1) 18 ≤ (if b then counted h.count else 1))
        × (min (0 + 1) 18 ≤ (if b then (if c then counted h.part else 1) else 1))
    counts-one true true = (omega arith, omega arith)
    counts-one true false = (omega arith, omega arith)
    counts-one false c = (omega arith, omega arith)

-- after windows that see p, and are long enough, it sounds since the first of them at least, and up to the last one
pub tone-lasts : (p : Pair) (js : List (Option Sight)) (h : Hearing) → IsOrderly h → IsOpen h.at h.sounding
    → AllByRecursion (λ l. l ≡ Some p) (map label js) → needed_of (Some p) ≤ length js
    → Lasts h.at (fold hearer.next h js).at (fold hearer.next h js).sounding
tone-lasts p [] h orderly since all long = absurd (omega (arith, long, (needed-range (Some p)).0))
tone-lasts p (None ∷ js) h orderly since all long = absurd (cc)
tone-lasts p (Some s ∷ js) h orderly since all long =
    let is = pair-is s p all.0 in
    let begun = subst (λ (q : Pair). IsInTone q h.at (0 + 1) (hearer.next h (Some s))) is (first-window h s orderly since) in
    (windows-on p h.at js (0 + 1) (hearer.next h (Some s)) begun all.1).lasts (omega (arith, long))
