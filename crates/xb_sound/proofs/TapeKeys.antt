-- The marks of a tape are those of keys.
use Rattle.std.proofs.Common.{ℕ, zero, suc, ◌<◌, ◌%◌, Bool, true, false, cond, List, [], ◌∷◌, ◌++◌, map, drop, length, Option, Some, None, arith, refl}
use Rattle.std.specs.List.{AllByRecursion, filter, find, flat_map}
use Rattle.std.specs.Prelude.{nat_lt}
use Rattle.xb_model.specs.declared.dialled.Dialled.{Dialled}
use Rattle.xb_model.specs.declared.dialled.Dialled.TheVariants as dialled
use Rattle.xb_model.specs.declared.digit.TheConstants.{DIGITS}
use Rattle.xb_model.specs.declared.limits.Limits.{Limits}
use Rattle.xb_model.specs.declared.mark.Mark.{Mark}
use Rattle.xb_model.specs.declared.plan.Plan.{Plan}
use Rattle.xb_model.specs.Keyings.{marks_of}
use Rattle.xb_model.specs.Numbers.{before_mutilated, digit_of_train, fronts, good_digits, is_complete, number_of, or_refused, outcome_of, without_number}
use Rattle.xb_model.specs.Records.{Attempt, Run, Train, attempts_of, record_of, trains_of}
use Rattle.xb_model.specs.Routing.{CodedRoute, covers, longer_of, longest_of, order_by, order_of, route_for}
use Rattle.xb_model.specs.Tapes.{joined_tape}
use Rattle.xb_sound.specs.HeardKeys.{AreKeyed}
use Rattle.xb_sound.specs.HeardTapes.{AreDigits, HavePrefixes, TapesAreHeard}
use Rattle.xb_sound.proofs.HeardMarks.{digits_are_keyed, keys_are_heard}

abbrev IfDigit : Option ℕ → Type 0
IfDigit None = Unit {0}
IfDigit (Some d) = d < DIGITS

count-digit : (n : ℕ) (good : Bool) → IfDigit (cond good (Some (n % 10)) None)
count-digit n true = omega arith
count-digit n false = tt

trains-digits : (limits : Limits) (trains : List Train) → AreDigits (before_mutilated (map (digit_of_train limits) trains))
trains-digits limits [] = tt
trains-digits limits (train ∷ trains) =
    front (digit_of_train limits train) (map (digit_of_train limits) trains) is (trains-digits limits trains)
  where
    front : (d : Option ℕ) (rest : List (Option ℕ)) → IfDigit d → AreDigits (before_mutilated rest)
        → AreDigits (before_mutilated (d ∷ rest))
    front None rest is all = tt
    front (Some d) rest is all = (is, all)

    is : IfDigit (digit_of_train limits train)
    is = count-digit _ _

-- a front of digits has digits
map-front : (d : ℕ) → d < DIGITS → (lists : List (List ℕ)) → AllByRecursion AreDigits lists
    → AllByRecursion AreDigits (map (λ front. d ∷ front) lists)
map-front d is [] all = tt
map-front d is (front ∷ lists) all = ((is, all.0), map-front d is lists all.1)

fronts-digits : (digits : List ℕ) → AreDigits digits → AllByRecursion AreDigits (fronts digits)
fronts-digits [] all = (tt, tt)
fronts-digits (d ∷ digits) all = (tt, map-front d all.0 (fronts digits) (fronts-digits digits all.1))

abbrev IfDigits : Option (List ℕ) → Type 0
IfDigits None = Unit {0}
IfDigits (Some digits) = AreDigits digits

find-digits : (test : List ℕ → Bool) (lists : List (List ℕ)) → AllByRecursion AreDigits lists → IfDigits (find test lists)
find-digits test [] all = tt
find-digits test (list ∷ lists) all = by (test list) (find-digits test lists all.1)
  where
    by : (b : Bool) → IfDigits (find test lists) → IfDigits (cond b (Some list) (find test lists))
    by true later = all.0
    by false later = later

abbrev AreDialled : Dialled → Type 0
AreDialled (dialled.Number digits) = AreDigits digits
AreDialled (dialled.Refused reason heard) = Unit {0}

outcome-dialled : (plan : Plan) (limits : Limits) (runs : List Run) → AreDialled (outcome_of plan limits runs)
outcome-dialled plan limits runs =
    by (number_of plan limits runs) (find-digits (is_complete plan) (fronts (good_digits limits runs))
    (fronts-digits (good_digits limits runs) (trains-digits limits (trains_of limits runs)))) _ _ _
  where
    by : (number : Option (List ℕ)) → IfDigits number → (mutilated timed : Bool) (count : ℕ)
        → AreDialled (or_refused number (without_number mutilated timed count))
    by None is mutilated timed count = tt
    by (Some digits) is mutilated timed count = is

-- the route that a number takes is one of the table
abbrev pub IfPrefix : Option CodedRoute → Type 0
IfPrefix None = Unit {0}
IfPrefix (Some route) = AreDigits route.prefixed

longer-prefix : (route : CodedRoute) (other : Option CodedRoute) → AreDigits route.prefixed → IfPrefix other
    → IfPrefix (longer_of route other)
longer-prefix route None is also = is
longer-prefix route (Some other) is also = by (nat_lt (length route.code) (length other.code))
  where
    by : (b : Bool) → IfPrefix (cond b (Some other) (Some route))
    by true = also
    by false = is

longest-prefix : (routes : List CodedRoute) → HavePrefixes routes → IfPrefix (longest_of routes)
longest-prefix [] all = tt
longest-prefix (route ∷ routes) all = longer-prefix route (longest_of routes) all.0 (longest-prefix routes all.1)

filter-prefixes : (test : CodedRoute → Bool) (routes : List CodedRoute) → HavePrefixes routes
    → HavePrefixes (filter test routes)
filter-prefixes test [] all = tt
filter-prefixes test (route ∷ routes) all = by (test route) (filter-prefixes test routes all.1)
  where
    by : (b : Bool) → HavePrefixes (filter test routes)
        → HavePrefixes (cond b (route ∷ filter test routes) (filter test routes))
    by true later = (all.0, later)
    by false later = later

both-digits : (xs ys : List ℕ) → AreDigits xs → AreDigits ys → AreDigits (xs ++ ys)
both-digits [] ys x y = y
both-digits (d ∷ xs) ys x y = (x.0, both-digits xs ys x.1 y)

drop-digits : (n : ℕ) (xs : List ℕ) → AreDigits xs → AreDigits (drop n xs)
drop-digits zero xs all = all
drop-digits (suc n) [] all = tt
drop-digits (suc n) (x ∷ xs) all = drop-digits n xs all.1

pub order-keyed : (route : Option CodedRoute) (digits : List ℕ) → IfPrefix route → AreDigits digits
    → AreKeyed (marks_of (order_by route digits))
order-keyed None digits is all = (tt, tt)
order-keyed (Some route) digits is all = (
  tt,
  (
    (tt, refl),
    digits_are_keyed (route.prefixed ++ drop route.deleted digits)
        (both-digits route.prefixed (drop route.deleted digits) is (drop-digits route.deleted digits all)),
  ),
)

outcome-keyed : (routes : List CodedRoute) → HavePrefixes routes → (outcome : Dialled) → AreDialled outcome
    → AreKeyed (marks_of (order_of routes outcome))
outcome-keyed routes have (dialled.Number digits) is =
    order-keyed (route_for routes digits) digits
    (longest-prefix (filter (λ route. covers route.code digits) routes)
    (filter-prefixes (λ route. covers route.code digits) routes have)) is
outcome-keyed routes have (dialled.Refused reason heard) is = (tt, tt)

both-keyed : (xs ys : List Mark) → AreKeyed xs → AreKeyed ys → AreKeyed (xs ++ ys)
both-keyed [] ys x y = y
both-keyed (m ∷ xs) ys x y = (x.0, both-keyed xs ys x.1 y)

pub entries-keyed : (routes : List CodedRoute) → HavePrefixes routes → (plan : Plan) (limits : Limits) (attempts : List Attempt)
    → AreKeyed (flat_map (λ entry. entry) (map (λ outcome. marks_of (order_of routes outcome))
    (map (λ (attempt : Attempt). outcome_of plan limits attempt.runs) attempts)))
entries-keyed routes have plan limits [] = tt
entries-keyed routes have plan limits (attempt ∷ attempts) =
    both-keyed (marks_of (order_of routes (outcome_of plan limits attempt.runs))) _
    (outcome-keyed routes have (outcome_of plan limits attempt.runs) (outcome-dialled plan limits attempt.runs))
    (entries-keyed routes have plan limits attempts)

pub tapes_are_heard : TapesAreHeard
tapes_are_heard cadence plan limits routes l rows apart have =
    keys_are_heard cadence (joined_tape plan limits routes l rows) apart
    (entries-keyed routes have plan limits (attempts_of limits (record_of l rows)))
