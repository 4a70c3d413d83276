-- What orders key.
use Rattle.std.proofs.Common.{◌≡◌, ◌∙◌, ℕ, Bool, true, false, ◌&&◌, List, [], ◌∷◌, ◌++◌, map, length, sym, Option, Some, None}
use Rattle.std.specs.Prelude.{if◌then◌else◌, nat_le, nat_lt}
use Rattle.std.specs.List.{AllByRecursion, filter, flat_map}
use Rattle.std.proofs.lemmas.List.Folds.{flat_map-map}
use Rattle.xb_model.specs.declared.dialled.Dialled.{Dialled}
use Rattle.xb_model.specs.declared.dialled.Dialled.TheVariants as dialled
use Rattle.xb_model.specs.declared.digits.TheConstants.{NUMBER_DIGITS}
use Rattle.xb_model.specs.declared.key.Key.TheVariants.{Digit, St}
use Rattle.xb_model.specs.declared.mark.Mark.{Mark}
use Rattle.xb_model.specs.declared.order.Order.{Order}
use Rattle.xb_model.specs.declared.order.Order.TheVariants.{Key, Refused}
use Rattle.xb_model.specs.declared.reason.Reason.TheVariants.{Unknown}
use Rattle.xb_model.specs.Keyings.{marks_of, tone}
use Rattle.xb_model.specs.Routing.{CodedRoute, covers, longer_of, longest_of, order_of, route_for}
use Rattle.xb_sound.specs.HeardKeys.{AreKeyed}
use Rattle.xb_sound.specs.HeardTapes.{AreDigits, HavePrefixes}
use Rattle.xb_sound.proofs.TapeKeys.{IfPrefix, order-keyed}
use Rattle.xb_incoming.specs.Attempts.{capped, number_of}
use Rattle.xb_laws.specs.Tandem.{keyed_by, keyed_of}

-- the marks of orders, and the numbers that they key
abbrev pub marks_in : List Order → List Mark
marks_in orders = flat_map marks_of orders

abbrev pub numbers_in : List Order → List (List ℕ)
numbers_in orders = flat_map keyed_by orders

-- the orders of outcomes
abbrev pub orders_of : List CodedRoute → List Dialled → List Order
orders_of routes outcomes = map (order_of routes) outcomes

pub numbers-keyed : (routes : List CodedRoute) (outcomes : List Dialled)
    → numbers_in (orders_of routes outcomes) ≡ keyed_of routes outcomes
numbers-keyed routes outcomes = flat_map-map keyed_by (order_of routes) outcomes

pub entries-joined : (routes : List CodedRoute) (outcomes : List Dialled)
    → flat_map (λ entry. entry) (map (λ outcome. marks_of (order_of routes outcome)) outcomes)
    ≡ marks_in (orders_of routes outcomes)
entries-joined routes outcomes =
    flat_map-map (λ (entry : List Mark). entry) (λ outcome. marks_of (order_of routes outcome)) outcomes
    ∙ sym (flat_map-map marks_of (order_of routes) outcomes)

-- the digits of marks that are keyed are digits
digits-first : (digits : List ℕ) (rest : List Mark)
    → AreKeyed ((map (λ d. tone (Digit d)) digits ++ tone St ∷ []) ++ rest) → AreDigits digits × AreKeyed rest
digits-first [] rest keyed = (tt, keyed.1)
digits-first (d ∷ digits) rest keyed =
    let more = digits-first digits rest keyed.1 in ((keyed.0.0, more.0), more.1)

pub numbers-digits : (orders : List Order) → AreKeyed (marks_in orders) → AllByRecursion AreDigits (numbers_in orders)
numbers-digits [] keyed = tt
numbers-digits (Key trunk digits ∷ orders) keyed =
    let both = digits-first digits (marks_in orders) keyed.1.1 in (both.0, numbers-digits orders both.1)
numbers-digits (Refused reason heard ∷ orders) keyed = numbers-digits orders keyed.1

-- a route that is found puts digits in front
longest-prefix : (test : CodedRoute → Bool) (routes : List CodedRoute) → HavePrefixes routes
    → IfPrefix (longest_of (filter test routes))
longest-prefix test [] all = tt
longest-prefix test (route ∷ routes) all = by (test route) (longest-prefix test routes all.1)
  where
    of-two : (other : Option CodedRoute) → IfPrefix other → IfPrefix (longer_of route other)
    of-two None is = all.0
    of-two (Some other) is = by (nat_lt (length route.code) (length other.code))
      where
        by : (b : Bool) → IfPrefix (if b then Some other else Some route)
        by true = is
        by false = all.0

    by : (b : Bool) → IfPrefix (longest_of (filter test routes))
        → IfPrefix (longest_of (if b then route ∷ filter test routes else filter test routes))
    by true later = of-two (longest_of (filter test routes)) later
    by false later = later

number-keyed : (routes : List CodedRoute) → HavePrefixes routes → (digits : List ℕ) → AreDigits digits
    → AreKeyed (marks_of (order_of routes (number_of digits)))
number-keyed routes have digits all = by (nat_le 1 (length digits) && nat_le (length digits) NUMBER_DIGITS)
  where
    by : (b : Bool) → AreKeyed (marks_of (order_of routes
        (if b then dialled.Number digits else dialled.Refused Unknown (capped (length digits)))))
    by true =
        order-keyed (route_for routes digits) digits (longest-prefix (λ route. covers route.code digits) routes have) all
    by false = (tt, tt)

both-keyed : (xs ys : List Mark) → AreKeyed xs → AreKeyed ys → AreKeyed (xs ++ ys)
both-keyed [] ys x y = y
both-keyed (m ∷ xs) ys x y = (x.0, both-keyed xs ys x.1 y)

-- so what an office keys of numbers of digits is keyed right
pub next-keyed : (routes : List CodedRoute) → HavePrefixes routes → (numbers : List (List ℕ))
    → AllByRecursion AreDigits numbers → AreKeyed (marks_in (orders_of routes (map number_of numbers)))
next-keyed routes have [] all = tt
next-keyed routes have (digits ∷ numbers) all =
    both-keyed (marks_of (order_of routes (number_of digits))) (marks_in (orders_of routes (map number_of numbers)))
    (number-keyed routes have digits all.0) (next-keyed routes have numbers all.1)
