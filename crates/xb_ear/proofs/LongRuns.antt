-- What is heard are the runs that are long enough, across holes too.
use Rattle.std.proofs.Common.{◌≡◌, ◌∙◌, ℕ, ◌+◌, ◌-◌, ◌^◌, ◌<◌, ◌≤◌, Bool, true, false, ◌&&◌, List, [], ◌∷◌, ◌++◌, map, min, sym, ap, arith, refl, Option, Some, None, inl, inr, ◌⊎◌, append-nil, eqb-true, eq-eqb}
use Rattle.std.specs.Prelude.{◌||◌, ◌==◌, if◌then◌else◌, nat_le}
use Rattle.std.proofs.lemmas.Bool.{cases_lt, false≢true, le-leb, leb-true, lt-leb}
use Rattle.xb_model.specs.declared.key.Tone.{Tone as Pair}
use Rattle.xb_ear.specs.declared.hearing.TheConstants.{GAP_WINDOWS, PART_WINDOWS}
use Rattle.xb_ear.specs.Ears.{sights}
use Rattle.xb_ear.specs.Hearings.{counted, silent}
use Rattle.xb_ear.specs.LongRuns.{KeysAreLongRuns, carried, is_long, is_same_label, label, long_runs, needed_of, one, pairs_of_runs, runs_from}
use Rattle.xb_ear.proofs.FirstRuns.{BeginsWith, begins-none, begins-some, capped, drops-some, meets-on, rest_of}
use Rattle.xb_ear.proofs.HeardKeys.{labels-are}
use Rattle.xb_ear.proofs.Received.{sound-pairs}
use Rattle.xb_ear.proofs.Runs.{label-same, needed-range}
use Rattle.xb_ear.proofs.Steps.{Known, after, count_after, enough, gives, joins_after, known, part_after, whole, whole-step}

-- h windows saw none, after a run of l
record IsAway (k : Known) (l : Option Pair) (n m h : ℕ) : Type 0 where
  away : k.away ≡ min h (2 ^ 64 - 1)
  few : h < 8 → (k.seen ≡ l) × ((k.count ≡ min n (2 ^ 64 - 1)) × (k.part ≡ min m (2 ^ 64 - 1)))
  many : 8 ≤ h → (k.seen ≡ None) × (k.sounding ≡ None)
  begun : (l ≡ None) ⊎ (0 < h)

-- h windows in a row saw p, after a run of l
record IsIn (k : Known) (l : Option Pair) (n m : ℕ) (p : Pair) (h : ℕ) : Type 0 where
  seen : k.seen ≡ Some p
  away : k.away ≡ 0
  count : k.count ≡ min (carried l n m (Some p) + h) (2 ^ 64 - 1)
  part : k.part ≡ min h (2 ^ 64 - 1)
  sounds : is_long (Some p) (carried l n m (Some p) + h) h ≡ true → k.sounding ≡ Some p

-- h windows in a row saw x, after a run of l
abbrev Follows : Known → Option Pair → ℕ → ℕ → Option Pair → ℕ → Type 0
Follows k l n m None h = IsAway k l n m h
Follows k l n m (Some p) h = IsIn k l n m p h

long-is : (l : Option Pair) (n m : ℕ) (p : Pair) (h part count : ℕ) → part ≡ min h (2 ^ 64 - 1)
    → count ≡ min (carried l n m (Some p) + h) (2 ^ 64 - 1)
    → (nat_le PART_WINDOWS part && nat_le (needed_of (Some p)) count) ≡ is_long (Some p) (carried l n m (Some p) + h) h
long-is l n m p h part count part_is count_is =
    ap (λ (b : Bool). b && nat_le (needed_of (Some p)) count) (capped PART_WINDOWS h part (omega arith) part_is)
    ∙ ap (λ (b : Bool). nat_le PART_WINDOWS h && b)
    (capped (needed_of (Some p)) (carried l n m (Some p) + h) count (needed-range (Some p)).1 count_is)

begins : (k : Known) (y l : Option Pair) (n m h : ℕ) (ls : List (Option Pair)) → Follows (after k y) l n m y h
    → enough k y ≡ true → BeginsWith y (long_runs l n m (runs_from y h ls))
begins k None l n m h ls follows e =
    begins-none ls l n m h (sym (capped GAP_WINDOWS h (counted k.away) (omega arith) follows.away) ∙ e)
begins k (Some p) l n m h ls follows e =
    begins-some ls l n m p h
    (sym (long-is l n m p h (part_after k (Some p)) (count_after k (Some p)) follows.part follows.count) ∙ e)

-- a window more: what follows then, and gives the same
record Step (k : Known) (l : Option Pair) (n m : ℕ) (x : Option Pair) (h : ℕ) (y : Option Pair) : Type 0 where
  to : Option Pair
  all : ℕ
  row : ℕ
  long : ℕ
  follows : Follows (after k y) to all row y long
  same : (ls : List (Option Pair)) → rest_of k.sounding (long_runs l n m (runs_from x h (y ∷ ls)))
      ≡ rest_of k.sounding (long_runs to all row (runs_from y long ls))

-- silence goes on
none-none : (k : Known) (l : Option Pair) (n m h : ℕ) → IsAway k l n m h → Step k l n m None h None
none-none k l n m h is = record {
  to = l;
  all = n;
  row = m;
  long = h + 1;
  follows = record {
    away = omega (arith, is.away);
    few = λ short.
        let before = is.few (omega (arith, short)) in
        let no : nat_le GAP_WINDOWS (counted k.away) ≡ false =
        lt-leb GAP_WINDOWS (counted k.away) (omega (arith, is.away, short)) in
        (ap (λ (b : Bool). if b then None else k.seen) no ∙ before.0, before.1);
    many = λ far.
        let yes : nat_le GAP_WINDOWS (counted k.away) ≡ true =
        le-leb GAP_WINDOWS (counted k.away) (omega (arith, is.away, far)) in
        (ap (λ (b : Bool). if b then None else k.seen) yes, ap (λ (b : Bool). if b then None else k.sounding) yes);
    begun = inr (omega arith);
  };
  same = λ ls. refl;
}

-- a run of p begins, after a hole
record IsBegun (k : Known) (l : Option Pair) (n m : ℕ) (p : Pair) : Type 0 where
  count : count_after k (Some p) ≡ min (carried l n m (Some p) + 1) (2 ^ 64 - 1)
  part : part_after k (Some p) ≡ min 1 (2 ^ 64 - 1)

begun-apart : (k : Known) (l : Option Pair) (n m : ℕ) (p : Pair) → is_same_label k.seen (Some p) ≡ false
    → is_same_label l (Some p) ≡ false → IsBegun k l n m p
begun-apart k l n m p apart differ =
    let joined : joins_after k (Some p) ≡ false =
    ap (λ (b : Bool). b && ((k.away == 0) || nat_le PART_WINDOWS k.part)) apart in
    let none : carried l n m (Some p) ≡ 0 = ap (λ (b : Bool). if b && nat_le PART_WINDOWS m then n else 0) differ in
    let count : count_after k (Some p) ≡ 1 = ap (λ (b : Bool). if b then counted k.count else 1) joined in
    let part : part_after k (Some p) ≡ 1 =
    ap (λ (b : Bool). if b then (if k.away == 0 then counted k.part else 1) else 1) joined in
    record { count = omega (arith, count, none); part = omega (arith, part) }

begun-across : (k : Known) (l : Option Pair) (n m : ℕ) (p : Pair) → 0 < k.away → k.seen ≡ l
    → k.count ≡ min n (2 ^ 64 - 1) → k.part ≡ min m (2 ^ 64 - 1) → IsBegun k l n m p
begun-across k l n m p away seen count_is part_is =
    record {
      count = ap (λ (b : Bool). if b then counted k.count else 1) joined ∙ count both;
      part = ap (λ (b : Bool). if b then (if k.away == 0 then counted k.part else 1) else 1) joined ∙ part both;
    }
  where
    both : Bool
    both = is_same_label l (Some p) && nat_le PART_WINDOWS m

    off : (b : Bool) → (k.away == 0) ≡ b → (k.away == 0) ≡ false
    off true e = absurd (omega (arith, away, eqb-true _ _ e))
    off false e = e

    apart : (k.away == 0) ≡ false
    apart = off (k.away == 0) refl

    joined : joins_after k (Some p) ≡ both
    joined =
        ap (λ (s : Option Pair). is_same_label s (Some p) && ((k.away == 0) || nat_le PART_WINDOWS k.part)) seen
        ∙ ap (λ (b : Bool). is_same_label l (Some p) && (b || nat_le PART_WINDOWS k.part)) apart
        ∙ ap (λ (b : Bool). is_same_label l (Some p) && b) (capped PART_WINDOWS m k.part (omega arith) part_is)

    count : (b : Bool) → (if b then counted k.count else 1) ≡ min ((if b then n else 0) + 1) (2 ^ 64 - 1)
    count true = omega (arith, count_is)
    count false = omega arith

    part : (b : Bool) → (if b then (if k.away == 0 then counted k.part else 1) else 1) ≡ min 1 (2 ^ 64 - 1)
    part true = ap (λ (c : Bool). if c then counted k.part else 1) apart ∙ omega arith
    part false = omega arith

begun-in : (k : Known) (l : Option Pair) (n m : ℕ) (p : Pair) → IsBegun k l n m p → IsIn (after k (Some p)) l n m p 1
begun-in k l n m p begun = record {
  seen = refl;
  away = refl;
  count = begun.count;
  part = begun.part;
  sounds = λ long. absurd (false≢true long);
}

none-some : (k : Known) (l : Option Pair) (n m h : ℕ) (p : Pair) → IsAway k l n m h → Step k l n m None h (Some p)
none-some k l n m h p is = elim (cases_lt h 8) [
  | inl short ↦
      let before = is.few short in
      let no : nat_le GAP_WINDOWS h ≡ false = lt-leb GAP_WINDOWS h (omega (arith, short)) in
      record {
        to = l;
        all = n;
        row = m;
        long = 1;
        follows = begun-in k l n m p (elim is.begun [
          | inl none ↦
              let differ : is_same_label l (Some p) ≡ false = ap (λ (s : Option Pair). is_same_label s (Some p)) none in
              begun-apart k l n m p (ap (λ (s : Option Pair). is_same_label s (Some p)) before.0 ∙ differ) differ
          | inr some ↦
              begun-across k l n m p (omega (arith, some, is.away)) before.0 before.1.0 before.1.1
        ]);
        same = λ ls. ap (λ (b : Bool). rest_of k.sounding (if b
            then None ∷ long_runs None 0 0 (runs_from (Some p) 1 ls)
            else long_runs l n m (runs_from (Some p) 1 ls))) no;
      }
  | inr far ↦
      let quiet = is.many far in
      let yes : nat_le GAP_WINDOWS h ≡ true = le-leb GAP_WINDOWS h (omega (arith, far)) in
      record {
        to = None;
        all = 0;
        row = 0;
        long = 1;
        follows = begun-in k None 0 0 p
            (begun-apart k None 0 0 p (ap (λ (s : Option Pair). is_same_label s (Some p)) quiet.0) refl);
        same = λ ls.
            ap (λ (b : Bool). rest_of k.sounding (if b
            then None ∷ long_runs None 0 0 (runs_from (Some p) 1 ls)
            else long_runs l n m (runs_from (Some p) 1 ls))) yes
            ∙ ap (λ (s : Option Pair). rest_of s (None ∷ long_runs None 0 0 (runs_from (Some p) 1 ls))) quiet.1
            ∙ ap (λ (s : Option Pair). rest_of s (long_runs None 0 0 (runs_from (Some p) 1 ls))) (sym quiet.1);
      }
]

-- a hole begins, or silence
some-none : (k : Known) (l : Option Pair) (n m : ℕ) (p : Pair) (h : ℕ) → IsIn k l n m p h → Step k l n m (Some p) h None
some-none k l n m p h is = record {
  to = Some p;
  all = carried l n m (Some p) + h;
  row = h;
  long = 1;
  follows = record {
    away = omega (arith, is.away);
    few = λ short.
        let no : nat_le GAP_WINDOWS (counted k.away) ≡ false =
        lt-leb GAP_WINDOWS (counted k.away) (omega (arith, is.away)) in
        (ap (λ (b : Bool). if b then None else k.seen) no ∙ is.seen, (is.count, is.part));
    many = λ far. absurd (omega (arith, far));
    begun = inr (omega arith);
  };
  same = λ ls. drops-some k.sounding l n m p h (runs_from None 1 ls) is.sounds;
}

some-some : (k : Known) (l : Option Pair) (n m : ℕ) (p : Pair) (h : ℕ) (q : Pair) → IsIn k l n m p h
    → Step k l n m (Some p) h (Some q)
some-some k l n m p h q is = by (is_same_label (Some p) (Some q)) refl
  where
    by : (b : Bool) → is_same_label (Some p) (Some q) ≡ b → Step k l n m (Some p) h (Some q)
    by true e =
        let same_pair : Some p ≡ Some q = label-same (Some p) (Some q) e in
        let zero : (k.away == 0) ≡ true = eq-eqb k.away 0 is.away in
        let joined : joins_after k (Some q) ≡ true =
        ap (λ (s : Option Pair). is_same_label s (Some q) && ((k.away == 0) || nat_le PART_WINDOWS k.part)) is.seen
        ∙ ap (λ (b : Bool). b && ((k.away == 0) || nat_le PART_WINDOWS k.part)) e
        ∙ ap (λ (b : Bool). b || nat_le PART_WINDOWS k.part) zero in
        let base : carried l n m (Some p) ≡ carried l n m (Some q) = ap (λ (x : Option Pair). carried l n m x) same_pair in
        let count_on : count_after k (Some q) ≡ counted k.count = ap (λ (b : Bool). if b then counted k.count else 1) joined in
        let part_on : part_after k (Some q) ≡ counted k.part =
        ap (λ (b : Bool). if b then (if k.away == 0 then counted k.part else 1) else 1) joined
        ∙ ap (λ (b : Bool). if b then counted k.part else 1) zero in
        let count : count_after k (Some q) ≡ min (carried l n m (Some q) + (h + 1)) (2 ^ 64 - 1) =
        omega (arith, count_on, base, is.count) in
        let part : part_after k (Some q) ≡ min (h + 1) (2 ^ 64 - 1) = omega (arith, part_on, is.part) in
        record {
          to = l;
          all = n;
          row = m;
          long = h + 1;
          follows = record {
            seen = refl;
            away = refl;
            count = count;
            part = part;
            sounds = λ long. ap (λ (b : Bool). if b then Some q else k.sounding)
                (long-is l n m q (h + 1) (part_after k (Some q)) (count_after k (Some q)) part count ∙ long);
          };
          same = λ ls. ap (λ (b : Bool). rest_of k.sounding (long_runs l n m
              (if b then runs_from (Some q) (h + 1) ls else (Some p, h) ∷ runs_from (Some q) 1 ls))) e;
        }
    by false e = record {
      to = Some p;
      all = carried l n m (Some p) + h;
      row = h;
      long = 1;
      follows = begun-in k (Some p) (carried l n m (Some p) + h) h q
          (begun-apart k (Some p) (carried l n m (Some p) + h) h q
          (ap (λ (s : Option Pair). is_same_label s (Some q)) is.seen ∙ e) e);
      same = λ ls.
          ap (λ (b : Bool). rest_of k.sounding (long_runs l n m
          (if b then runs_from (Some q) (h + 1) ls else (Some p, h) ∷ runs_from (Some q) 1 ls))) e
          ∙ drops-some k.sounding l n m p h (runs_from (Some q) 1 ls) is.sounds;
    }

step : (k : Known) (l : Option Pair) (n m : ℕ) (x : Option Pair) (h : ℕ) (y : Option Pair) → Follows k l n m x h
    → Step k l n m x h y
step k l n m None h None is = none-none k l n m h is
step k l n m None h (Some p) is = none-some k l n m h p is
step k l n m (Some p) h None is = some-none k l n m p h is
step k l n m (Some p) h (Some q) is = some-some k l n m p h q is

-- the last run adds nothing either
ends : (k : Known) (l : Option Pair) (n m : ℕ) (x : Option Pair) (h : ℕ) → Follows k l n m x h
    → rest_of k.sounding (long_runs l n m ((x, h) ∷ [])) ≡ []
ends k l n m None h is = by (nat_le GAP_WINDOWS h) refl
  where
    by : (b : Bool) → nat_le GAP_WINDOWS h ≡ b → rest_of k.sounding (if b then None ∷ [] else []) ≡ []
    by false e = refl
    by true e = ap (λ (s : Option Pair). rest_of s (None ∷ [])) (is.many (leb-true _ _ e)).1
ends k l n m (Some p) h is = drops-some k.sounding l n m p h [] is.sounds

-- what is given of windows, and what sounds at their end
all-runs : (ls : List (Option Pair)) (k : Known) (l : Option Pair) (n m : ℕ) (x : Option Pair) (h : ℕ)
    → Follows k l n m x h
    → whole k ls ≡ one k.sounding ++ rest_of k.sounding (long_runs l n m (runs_from x h ls))
all-runs [] k l n m x h is =
    sym (ap (λ (ps : List Pair). one k.sounding ++ ps) (ends k l n m x h is) ∙ append-nil (one k.sounding))
all-runs (y ∷ ls) k l n m x h is =
    let next = step k l n m x h y is in
    whole-step k y ls
    ∙ ap (λ (ps : List Pair). gives k y ++ ps) (all-runs ls (after k y) next.to next.all next.row y next.long next.follows)
    ∙ meets-on k y (long_runs next.to next.all next.row (runs_from y next.long ls))
    (λ e. begins k y next.to next.all next.row next.long ls next.follows e)
    ∙ ap (λ (ps : List Pair). one k.sounding ++ ps) (sym (next.same ls))

-- so it is of windows from the first on
pub of-windows : (ls : List (Option Pair)) → whole (known silent) ls ≡ pairs_of_runs ls
of-windows ls =
    all-runs ls (known silent) None 0 0 None 0
    (record {
      away = omega arith;
      few = λ short. (refl, (omega arith, omega arith));
      many = λ far. (refl, refl);
      begun = inl refl;
    })

pub keys_are_long_runs : KeysAreLongRuns
keys_are_long_runs samples =
    sound-pairs samples ∙ ap (λ (ls : List (Option Pair)). whole (known silent) ls) (sym (labels-are samples))
    ∙ of-windows (map label (sights samples))
