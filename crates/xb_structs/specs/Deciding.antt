-- Which code decides where a number goes.
use Rattle.std.specs.Prelude.{◌≡◌, ℕ, List, length, take, Option, Some, None}
use Rattle.xb_model.specs.Routing.{CodedRoute, route_for}
use Rattle.xb_routes.specs.declared.route.Route.{Route}
use Rattle.xb_routes.specs.Coded.{uncoded}

-- the route of the longest code that the digits begin with, whose code is the first digits, so many
pub record IsDecided (routes : List CodedRoute) (digits : List ℕ) (count : ℕ) : Type 0 where
  pub route : CodedRoute
  pub longest : route_for routes digits ≡ Some route
  pub code : route.code ≡ take count digits
  pub whole : length route.code ≡ count

-- the code of so many digits decides; or the digits begin with no code
abbrev pub Decides : List CodedRoute → List ℕ → Option ℕ → Type 0
Decides routes digits None = route_for routes digits ≡ None
Decides routes digits (Some count) = IsDecided routes digits count

-- a search found the route of that code, and how many digits the code has; or the digits begin with no code
abbrev pub IsLongest : List CodedRoute → List ℕ → Option (ℕ × Route) → Type 0
IsLongest routes digits None = route_for routes digits ≡ None
IsLongest routes digits (Some found) =
    (decided : IsDecided routes digits found.0) × (uncoded decided.route ≡ found.1)
