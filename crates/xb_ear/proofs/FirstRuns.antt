-- The first of the runs that are long enough: it begins to sound, or goes on.
use Rattle.std.proofs.Common.{◌≡◌, ◌∙◌, ℕ, ◌+◌, ◌-◌, ◌^◌, ◌≤◌, Bool, true, false, ◌&&◌, List, [], ◌∷◌, ◌++◌, min, sym, ap, subst, arith, refl, Option, Some, None}
use Rattle.std.specs.Prelude.{if◌then◌else◌, nat_le}
use Rattle.std.specs.List.{flat_map}
use Rattle.std.proofs.lemmas.Bool.{le-leb, leb-false, leb-true, lt-leb}
use Rattle.xb_model.specs.declared.key.Tone.{Tone as Pair}
use Rattle.xb_ear.specs.declared.hearing.TheConstants.{GAP_WINDOWS, PART_WINDOWS}
use Rattle.xb_ear.specs.LongRuns.{carried, is_long, is_same_label, joined, long_runs, needed_of, one, runs_from}
use Rattle.xb_ear.proofs.Runs.{label-refl, label-same}
use Rattle.xb_ear.proofs.Standing.{and-both}
use Rattle.xb_ear.proofs.Steps.{Known, after, enough, gives}

-- what runs give after s sounded
abbrev pub rest_of : Option Pair → List (Option Pair) → List Pair
rest_of s ls = flat_map one (joined s ls)

-- counting stops long after a run is long enough
pub capped : (a n count : ℕ) → a ≤ 18 → count ≡ min n (2 ^ 64 - 1) → nat_le a count ≡ nat_le a n
capped a n count small is = by (nat_le a n) refl
  where
    by : (b : Bool) → nat_le a n ≡ b → nat_le a count ≡ b
    by true e =
        let far : a ≤ n = leb-true _ _ e in
        le-leb a count (omega (arith, far, is, small))
    by false e = lt-leb a count (omega (arith, leb-false _ _ e, is))

-- a list that begins with l
pub record BeginsWith (l : Option Pair) (ls : List (Option Pair)) : Type 0 where
  pub rest : List (Option Pair)
  pub is : ls ≡ l ∷ rest

-- silence that is long enough is the first of the runs that are
pub begins-none : (ls : List (Option Pair)) (l : Option Pair) (n m h : ℕ) → nat_le GAP_WINDOWS h ≡ true
    → BeginsWith None (long_runs l n m (runs_from None h ls))
begins-none [] l n m h far = record {
  rest = [];
  is = ap (λ (b : Bool). if b then None ∷ [] else []) far;
}
begins-none (None ∷ ls) l n m h far =
    begins-none ls l n m (h + 1) (le-leb GAP_WINDOWS (h + 1) (omega (arith, leb-true _ _ far)))
begins-none (Some q ∷ ls) l n m h far = record {
  rest = long_runs None 0 0 (runs_from (Some q) 1 ls);
  is = ap (λ (b : Bool). if b
      then None ∷ long_runs None 0 0 (runs_from (Some q) 1 ls)
      else long_runs l n m (runs_from (Some q) 1 ls)) far;
}

-- and so is a run of p
begins-at : (l : Option Pair) (n m : ℕ) (p : Pair) (h : ℕ) (runs : List (Option Pair × ℕ))
    → is_long (Some p) (carried l n m (Some p) + h) h ≡ true → BeginsWith (Some p) (long_runs l n m ((Some p, h) ∷ runs))
begins-at l n m p h runs far =
    let c : ℕ = carried l n m (Some p) + h in
    record {
      rest = long_runs (Some p) c h runs;
      is = ap (λ (b : Bool). if b then Some p ∷ long_runs (Some p) c h runs else long_runs (Some p) c h runs) far;
    }

pub begins-some : (ls : List (Option Pair)) (l : Option Pair) (n m : ℕ) (p : Pair) (h : ℕ)
    → is_long (Some p) (carried l n m (Some p) + h) h ≡ true
    → BeginsWith (Some p) (long_runs l n m (runs_from (Some p) h ls))
begins-some [] l n m p h far = begins-at l n m p h [] far
begins-some (None ∷ ls) l n m p h far = begins-at l n m p h (runs_from None 1 ls) far
begins-some (Some q ∷ ls) l n m p h far = by (is_same_label (Some p) (Some q)) refl
    (λ more. begins-some ls l n m q (h + 1) more)
  where
    c : ℕ
    c = carried l n m (Some p)

    parts : (nat_le PART_WINDOWS h ≡ true) × (nat_le (needed_of (Some p)) (c + h) ≡ true)
    parts = and-both (nat_le PART_WINDOWS h) (nat_le (needed_of (Some p)) (c + h)) far

    more : is_long (Some p) (c + (h + 1)) (h + 1) ≡ true
    more =
        ap (λ (b : Bool). b && nat_le (needed_of (Some p)) (c + (h + 1)))
        (le-leb PART_WINDOWS (h + 1) (omega (arith, leb-true _ _ parts.0)))
        ∙ le-leb (needed_of (Some p)) (c + (h + 1)) (omega (arith, leb-true _ _ parts.1))

    by : (b : Bool) → is_same_label (Some p) (Some q) ≡ b
        → (is_long (Some q) (carried l n m (Some q) + (h + 1)) (h + 1) ≡ true
        → BeginsWith (Some q) (long_runs l n m (runs_from (Some q) (h + 1) ls)))
        → BeginsWith (Some p) (long_runs l n m (if b then runs_from (Some q) (h + 1) ls else (Some p, h) ∷ runs_from (Some q) 1 ls))
    by true e rest =
        let same : Some p ≡ Some q = label-same (Some p) (Some q) e in
        subst (λ (x : Option Pair). BeginsWith x (long_runs l n m (runs_from (Some q) (h + 1) ls))) (sym same)
        (rest (subst (λ (x : Option Pair). is_long x (carried l n m x + (h + 1)) (h + 1) ≡ true) same more))
    by false e rest = begins-at l n m p h (runs_from (Some q) 1 ls) far

-- the first run that is long enough begins to sound, or goes on
sounds-first : (s l : Option Pair) (ls : List (Option Pair)) → BeginsWith l ls
    → one s ++ rest_of s ls ≡ (if is_same_label s l then [] else one s) ++ (one l ++ rest_of l ls)
sounds-first s l ls first = by (is_same_label s l) refl
  where
    with_rest : (t : Option Pair) → rest_of t ls ≡ flat_map one (joined t (l ∷ first.rest))
    with_rest t = ap (λ (ls : List (Option Pair)). flat_map one (joined t ls)) first.is

    itself : rest_of l ls ≡ flat_map one (joined l first.rest)
    itself =
        with_rest l
        ∙ ap (λ (b : Bool). flat_map one (if b then joined l first.rest else l ∷ joined l first.rest)) (label-refl l)

    by : (b : Bool) → is_same_label s l ≡ b
        → one s ++ rest_of s ls ≡ (if b then [] else one s) ++ (one l ++ rest_of l ls)
    by true e = ap (λ (t : Option Pair). one t ++ rest_of t ls) (label-same s l e)
    by false e =
        ap (λ (ps : List Pair). one s ++ ps)
        (with_rest s
        ∙ ap (λ (b : Bool). flat_map one (if b then joined s first.rest else l ∷ joined l first.rest)) e
        ∙ ap (λ (ps : List Pair). one l ++ ps) (sym itself))

-- one window more
meets : (s m : Option Pair) (ls : List (Option Pair)) (b : Bool) → (b ≡ true → BeginsWith m ls)
    → (if b then (if is_same_label s m then [] else one s) else [])
    ++ (one (if b then m else s) ++ rest_of (if b then m else s) ls)
    ≡ one s ++ rest_of s ls
meets s m ls true first = sym (sounds-first s m ls (first refl))
meets s m ls false first = refl

pub meets-on : (k : Known) (y : Option Pair) (ls : List (Option Pair)) → (enough k y ≡ true → BeginsWith y ls)
    → gives k y ++ (one (after k y).sounding ++ rest_of (after k y).sounding ls) ≡ one k.sounding ++ rest_of k.sounding ls
meets-on k None ls first = meets k.sounding None ls (enough k None) first
meets-on k (Some p) ls first = meets k.sounding (Some p) ls (enough k (Some p)) first

-- a run that sounds already, or is too short, adds nothing
pub drops-some : (s l : Option Pair) (n m : ℕ) (p : Pair) (h : ℕ) (runs : List (Option Pair × ℕ))
    → (is_long (Some p) (carried l n m (Some p) + h) h ≡ true → s ≡ Some p)
    → rest_of s (long_runs l n m ((Some p, h) ∷ runs)) ≡ rest_of s (long_runs (Some p) (carried l n m (Some p) + h) h runs)
drops-some s l n m p h runs sounds = by (is_long (Some p) c h) refl
  where
    c : ℕ
    c = carried l n m (Some p) + h

    after_it : List (Option Pair)
    after_it = long_runs (Some p) c h runs

    by : (b : Bool) → is_long (Some p) c h ≡ b → rest_of s (if b then Some p ∷ after_it else after_it) ≡ rest_of s after_it
    by false e = refl
    by true e =
        ap (λ (t : Option Pair). flat_map one (if is_same_label t (Some p) then joined t after_it else Some p ∷ joined (Some p) after_it)) (sounds e)
        ∙ ap (λ (b : Bool). flat_map one (if b then joined (Some p) after_it else Some p ∷ joined (Some p) after_it)) (label-refl (Some p))
        ∙ ap (λ (t : Option Pair). rest_of t after_it) (sym (sounds e))
