-- The keys in other words: of the runs of windows that see the same, those that are long enough, across holes too, equal
-- ones joined.
use Rattle.std.specs.Prelude.{◌≡◌, ℕ, ◌+◌, List, [], ◌∷◌, ◌++◌, ◌<◌, ◌≤◌, Bool, true, false, ◌&&◌, if◌then◌else◌, nat_le, map, replicate, Option, Some, None, ℤ}
use Rattle.std.specs.List.{flat_map}
use Rattle.xb_model.specs.declared.key.Key.TheVariants.{Kp}
use Rattle.xb_model.specs.declared.key.Tone.{Tone as Pair}
use Rattle.xb_model.specs.MfPairs.{mf_pair}
use Rattle.xb_ear.specs.declared.sight.Sight.{Sight}
use Rattle.xb_ear.specs.declared.hearing.TheConstants.{GAP_WINDOWS, KEY_WINDOWS, KP_WINDOWS, PART_WINDOWS}
use Rattle.xb_ear.specs.Ears.{heard, hearing_after, sights}
use Rattle.xb_ear.specs.HeardKeys.{pairs_in}
use Rattle.xb_ear.specs.Hearings.{is_same_pair, listed}

-- the pair that a window sees
abbrev pub label : Option Sight → Option Pair
label None = None
label (Some sight) = Some sight.pair

-- whether two windows see the same
abbrev pub is_same_label : Option Pair → Option Pair → Bool
is_same_label None None = true
is_same_label None (Some q) = false
is_same_label (Some p) None = false
is_same_label (Some p) (Some q) = is_same_pair p q

-- how many windows have to
abbrev pub needed_of : Option Pair → ℕ
needed_of None = GAP_WINDOWS
needed_of (Some p) = if is_same_pair p (mf_pair Kp) then KP_WINDOWS else KEY_WINDOWS

abbrev pub one : Option Pair → List Pair
one None = []
one (Some p) = p ∷ []

-- runs of windows that see the same, and how many windows each has, where n before these saw l
abbrev pub runs_from : Option Pair → ℕ → List (Option Pair) → List (Option Pair × ℕ)
runs_from l n [] = (l, n) ∷ []
runs_from l n (m ∷ ms) = if is_same_label l m then runs_from m (n + 1) ms else (l, n) ∷ runs_from m 1 ms

-- how many windows a run that sees x has from before a hole: where it saw the same and m windows in a row did, all that
-- it had then, which are n
abbrev pub carried : Option Pair → ℕ → ℕ → Option Pair → ℕ
carried l n m x = if is_same_label l x && nat_le PART_WINDOWS m then n else 0

-- whether a run of h windows is long enough, where it has n with those across holes
abbrev pub is_long : Option Pair → ℕ → ℕ → Bool
is_long None n h = nat_le GAP_WINDOWS h
is_long (Some p) n h = nat_le PART_WINDOWS h && nat_le (needed_of (Some p)) n

-- what the runs see that are long enough, after a run of l with n windows, m of them in a row
abbrev pub long_runs : Option Pair → ℕ → ℕ → List (Option Pair × ℕ) → List (Option Pair)
long_runs l n m [] = []
long_runs l n m (run ∷ runs) =
    if is_same_label run.0 None
    then (if nat_le GAP_WINDOWS run.1 then None ∷ long_runs None 0 0 runs else long_runs l n m runs)
    else (if is_long run.0 (carried l n m run.0 + run.1) run.1
    then run.0 ∷ long_runs run.0 (carried l n m run.0 + run.1) run.1 runs
    else long_runs run.0 (carried l n m run.0 + run.1) run.1 runs)

-- each of which sees other than the one before it, once equal ones are joined
abbrev pub joined : Option Pair → List (Option Pair) → List (Option Pair)
joined before [] = []
joined before (l ∷ ls) = if is_same_label before l then joined before ls else l ∷ joined l ls

-- before the first window it was silent
abbrev pub pairs_of_runs : List (Option Pair) → List Pair
pairs_of_runs labels = flat_map one (joined None (long_runs None 0 0 (runs_from None 0 labels)))

-- what is heard of samples, with what sounds at their end
abbrev pub KeysAreLongRuns : Type 0
KeysAreLongRuns = (samples : List ℤ)
    → pairs_in (heard samples ++ listed (hearing_after samples).sounding) ≡ pairs_of_runs (map label (sights samples))

-- a hole in a key changes nothing, where enough windows in a row see the key before it and after
abbrev pub HolesChangeNothing : Type 0
HolesChangeNothing = (p : Pair) (before hole after : ℕ) (earlier later : List (Option Pair)) → PART_WINDOWS ≤ before
    → hole < GAP_WINDOWS → PART_WINDOWS ≤ after
    → pairs_of_runs (earlier ++ (replicate before (Some p) ++ (replicate hole None ++ (replicate after (Some p) ++ later))))
    ≡ pairs_of_runs (earlier ++ (replicate before (Some p) ++ (replicate after (Some p) ++ later)))
