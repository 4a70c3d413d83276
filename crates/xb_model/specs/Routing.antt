-- Routing a number.
use Rattle.std.specs.Prelude.{ℕ, ◌<◌, List, [], ◌∷◌, ◌++◌, drop, length, Bool, true, false, ◌&&◌, ◌==◌, nat_lt, if◌then◌else◌, Option, Some, None}
use Rattle.std.specs.List.{AllByRecursion, filter}
use Rattle.xb_model.specs.declared.dialled.Dialled.{Dialled}
use Rattle.xb_model.specs.declared.dialled.Dialled.TheVariants as dialled
use Rattle.xb_model.specs.declared.reason.Reason.TheVariants.{Unknown}
use Rattle.xb_model.specs.declared.order.Order.{Order}
use Rattle.xb_model.specs.declared.order.Order.TheVariants.{Key, Refused}
use Rattle.xb_model.specs.declared.digit.TheConstants.{DIGITS}
use Rattle.xb_model.specs.declared.trunk.TheConstants.{TRUNKS}

-- a route: the code of the numbers that take it, its trunk group, how many digits it deletes, and
-- which it puts in front
pub record CodedRoute : Type 0 where
  pub code : List ℕ
  pub trunk : ℕ
  pub deleted : ℕ
  pub prefixed : List ℕ

abbrev pub coded_route : List ℕ → ℕ → ℕ → List ℕ → CodedRoute
coded_route code trunk deleted prefixed =
    record { code = code; trunk = trunk; deleted = deleted; prefixed = prefixed }

-- a route as tables have them: its trunk group has at most four digits, and what it puts in front are digits
abbrev pub IsRoute : CodedRoute → Type 0
IsRoute route = (route.trunk < TRUNKS) × AllByRecursion (λ digit. digit < DIGITS) route.prefixed

abbrev pub AreRoutes : List CodedRoute → Type 0
AreRoutes routes = AllByRecursion IsRoute routes

-- the code is a prefix of the digits
abbrev pub covers : List ℕ → List ℕ → Bool
covers [] digits = true
covers (c ∷ code) [] = false
covers (c ∷ code) (d ∷ digits) = c == d && covers code digits

-- of two routes the one with the longer code
abbrev pub longer_of : CodedRoute → Option CodedRoute → Option CodedRoute
longer_of route None = Some route
longer_of route (Some other) = if nat_lt (length route.code) (length other.code) then Some other
    else Some route

abbrev pub longest_of : List CodedRoute → Option CodedRoute
longest_of [] = None
longest_of (route ∷ routes) = longer_of route (longest_of routes)

-- of the routes whose code is a prefix of the digits, the one with the longest code
abbrev pub route_for : List CodedRoute → List ℕ → Option CodedRoute
route_for routes digits = longest_of (filter (λ route. covers route.code digits) routes)

-- the order by a route: its trunk group, and its prefix followed by the digits without the first
-- that it deletes; without a route a refusal
abbrev pub order_by : Option CodedRoute → List ℕ → Order
order_by None digits = Refused Unknown (length digits)
order_by (Some route) digits = Key route.trunk (route.prefixed ++ drop route.deleted digits)

-- the order of a number
abbrev pub routed : List CodedRoute → List ℕ → Order
routed routes digits = order_by (route_for routes digits) digits

-- the order of what was dialled: a refusal stays as it is
abbrev pub order_of : List CodedRoute → Dialled → Order
order_of routes (dialled.Number digits) = routed routes digits
order_of routes (dialled.Refused reason heard) = Refused reason heard
