-- The routes that plain numbers say, in the order of their codes' numbers.
use Rattle.std.specs.Prelude.{◌≡◌, ℕ, ◌<◌, ◌==◌, nat_le, nat_lt, if◌then◌else◌, List, [], ◌∷◌, length, take, Option, Some, None, option_map, slice_index_or}
use Rattle.std.specs.List.{AllByRecursion}
use Rattle.xb_model.specs.declared.digits.TheConstants.{PREFIX_DIGITS}
use Rattle.xb_model.specs.declared.trunk.TheConstants.{TRUNKS}
use Rattle.xb_model.specs.Routing.{CodedRoute}
use Rattle.xb_routes.specs.declared.route.Route.{Route}
use Rattle.xb_routes.specs.Codes.{AreDigits, IsCodeLength}
use Rattle.xb_routes.specs.Coded.{uncoded}
use Rattle.xb_routes.specs.Places.{code_number}
use Rattle.xb_routes.specs.Text.{has_code}
use Rattle.xb_structs.specs.declared.route.PlainRoute.{PlainRoute}
use Rattle.xb_structs.specs.Digits.{digits_in}

-- a trunk group, 0 for what is none
abbrev pub trunk_in : ℕ → ℕ
trunk_in number = if nat_lt number TRUNKS then number else 0

-- what becomes of the numbers of a route
abbrev pub route_in : PlainRoute → Route
route_in route = record {
  trunk = trunk_in route.trunk;
  deleted = route.deleted;
  prefixed = digits_in PREFIX_DIGITS route.length route.prefix;
}

-- the first route with the number of a code
abbrev pub numbered : ℕ → List PlainRoute → Option PlainRoute
numbered number [] = None
numbered number (route ∷ routes) = if route.code == number then Some route else numbered number routes

-- that of the first n digits
abbrev pub numbered_first : ℕ → List ℕ → List PlainRoute → Option PlainRoute
numbered_first n digits routes = if nat_le n (length digits) then numbered (code_number (take n digits)) routes else None

-- the first route that has a code
abbrev pub of_code : List ℕ → List CodedRoute → Option CodedRoute
of_code code [] = None
of_code code (route ∷ routes) = if has_code code route then Some route else of_code code routes

abbrev pub no_route : PlainRoute
no_route = record { code = 0; trunk = 0; deleted = 0; length = 0; prefix = [] }

-- the number of the code at place i
abbrev pub number_at : List PlainRoute → ℕ → ℕ
number_at routes i = let route = slice_index_or routes i no_route in route.code

-- the numbers of the codes rise, so none comes twice
abbrev pub Rise : List PlainRoute → Type 0
Rise routes = (i j : ℕ) → i < j → j < length routes → number_at routes i < number_at routes j

-- each code has the same route in both lists
abbrev pub HaveSameRoutes : List PlainRoute → List CodedRoute → Type 0
HaveSameRoutes plain routes = (code : List ℕ) → AreDigits code
    → option_map route_in (numbered (code_number code) plain) ≡ option_map uncoded (of_code code routes)

-- each code is as long as a code may be
abbrev pub HaveCodeLengths : List CodedRoute → Type 0
HaveCodeLengths routes = AllByRecursion (λ route. IsCodeLength (length route.code)) routes

-- the plain routes are those of a table: their numbers rise, and each code has its route
pub record AreRoutes (plain : List PlainRoute) (routes : List CodedRoute) : Type 0 where
  pub rise : Rise plain
  pub same : HaveSameRoutes plain routes
  pub lengths : HaveCodeLengths routes
