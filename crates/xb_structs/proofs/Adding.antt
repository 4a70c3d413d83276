-- One route more, where no route has its code.
use Rattle.std.proofs.Common.{◌≡◌, ◌∙◌, ℕ, List, [], ◌∷◌, Bool, true, false, Option, Some, None, Result, Ok, Err, option_map, refl, sym, ap}
use Rattle.std.specs.Prelude.{◌||◌, is_some, if◌then◌else◌}
use Rattle.std.specs.List.{list_any}
use Rattle.xb_model.specs.declared.plan.Plan.{Plan}
use Rattle.xb_model.specs.Routing.{CodedRoute}
use Rattle.xb_routes.specs.declared.fault.RouteFault.{RouteFault}
use Rattle.xb_routes.specs.declared.fault.RouteFault.TheVariants as fault
use Rattle.xb_routes.specs.Codes.{AreDigits}
use Rattle.xb_routes.specs.Coded.{uncoded}
use Rattle.xb_routes.specs.Keys.{FourKeys}
use Rattle.xb_routes.specs.Places.{code_number}
use Rattle.xb_routes.specs.Steps.{and_then}
use Rattle.xb_routes.specs.Table.{Table}
use Rattle.xb_routes.specs.Text.{has_code, if_new, route_of}
use Rattle.xb_structs.specs.declared.route.PlainRoute.{PlainRoute}
use Rattle.xb_structs.specs.Filling.{next_route}
use Rattle.xb_structs.specs.Routes.{HaveSameRoutes, numbered, of_code, route_in}

is_some-map : {X Y : Type 0} (f : X → Y) (o : Option X) → is_some (option_map f o) ≡ is_some o
is_some-map f None = refl
is_some-map f (Some x) = refl

any-of_code : (code : List ℕ) (routes : List CodedRoute) → list_any (has_code code) routes ≡ is_some (of_code code routes)
any-of_code code [] = refl
any-of_code code (route ∷ routes) = by (has_code code route) (any-of_code code routes)
  where
    by : (b : Bool) → list_any (has_code code) routes ≡ is_some (of_code code routes)
        → (b || list_any (has_code code) routes) ≡ is_some (if b then Some route else of_code code routes)
    by true e = refl
    by false e = e

-- a code is among the routes of both lists, or of neither
pub any-numbered : (code : List ℕ) (plain : List PlainRoute) (routes : List CodedRoute) → AreDigits code → HaveSameRoutes plain routes
    → list_any (has_code code) routes ≡ is_some (numbered (code_number code) plain)
any-numbered code plain routes ds have =
    any-of_code code routes
    ∙ sym (is_some-map uncoded (of_code code routes))
    ∙ sym (ap is_some (have code ds))
    ∙ is_some-map route_in (numbered (code_number code) plain)

-- a route that its keys write goes on to the test of its code
pub next-of : (read : Table) (plan : Plan) (i : ℕ) (keys : FourKeys) (route : CodedRoute) → plan ≡ read.plan
    → route_of plan i (Some keys) ≡ Ok route → next_route read i keys ≡ if_new i read.routes route
next-of read plan i keys route p e =
    ap (λ (q : Plan). and_then (route_of q i (Some keys)) (if_new i read.routes)) (sym p)
    ∙ ap (λ (r : Result CodedRoute RouteFault). and_then r (if_new i read.routes)) e

-- what the test of a code gives
abbrev pub chosen : CodedRoute → ℕ → Bool → Result CodedRoute RouteFault
chosen route i found = if found then Err (fault.Twice i) else Ok route
