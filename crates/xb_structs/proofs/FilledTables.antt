-- A table that is filled by the values of a text's routes.
use Rattle.std.proofs.Common.{◌≡◌, ◌∙◌, ℕ, ◌+◌, List, [], ◌∷◌, ◌++◌, map, Option, Some, Result, Ok, Err, refl, sym, ap}
use Rattle.toml.specs.Data.{Items, no_items, item}
use Rattle.xb_model.specs.declared.limits.Limits.{Limits}
use Rattle.xb_model.specs.declared.plan.Plan.{Plan}
use Rattle.xb_model.specs.Routing.{CodedRoute}
use Rattle.xb_routes.specs.declared.fault.RouteFault.{RouteFault}
use Rattle.xb_routes.specs.ByItem.{items_list}
use Rattle.xb_routes.specs.Keys.{FourKeys, keys_of}
use Rattle.xb_routes.specs.Steps.{and_then}
use Rattle.xb_routes.specs.Table.{Table}
use Rattle.xb_routes.specs.Text.{if_new, route_of, routes_from, table_by}
use Rattle.xb_structs.specs.Filling.{filled}

module _ (plan : Plan) (limits : Limits) where
  -- the table of routes, or their fault
  abbrev table_with : Result (List CodedRoute) RouteFault → Result Table RouteFault
  table_with routes = and_then routes (λ all. Ok (table_by all plan limits))

  module _ (i : ℕ) (earlier : List CodedRoute) (more : List FourKeys) (rest : Items)
      (later : (new : CodedRoute) → filled (table_by (earlier ++ new ∷ []) plan limits) (i + 1) more ≡ table_with (routes_from plan (i + 1) (earlier ++ new ∷ []) rest)) where
    -- one route more, if it has no code of an earlier one
    if-new : (new : Result CodedRoute RouteFault)
        → and_then new (λ r. filled (table_by (earlier ++ r ∷ []) plan limits) (i + 1) more)
        ≡ table_with (and_then new (λ r. routes_from plan (i + 1) (earlier ++ r ∷ []) rest))
    if-new (Err f) = refl
    if-new (Ok r) = later r

    -- judged by itself and then beside the others, or both at once
    one-more : (route : Result CodedRoute RouteFault)
        → and_then (and_then route (if_new i earlier)) (λ r. filled (table_by (earlier ++ r ∷ []) plan limits) (i + 1) more)
        ≡ table_with (and_then route (λ r. and_then (if_new i earlier r) (λ new. routes_from plan (i + 1) (earlier ++ new ∷ []) rest)))
    one-more (Err f) = refl
    one-more (Ok route) = if-new (if_new i earlier route)

  -- the routes from route i on
  pub fills-from : (items : Items) (i : ℕ) (earlier : List CodedRoute) (keys : List FourKeys) → map keys_of (items_list items) ≡ map Some keys
      → filled (table_by earlier plan limits) i keys ≡ table_with (routes_from plan i earlier items)
  unfolding filled routes_from
  fills-from no_items i earlier [] said = refl
  fills-from no_items i earlier (first ∷ keys) said = absurd (cc said)
  fills-from (item value rest) i earlier [] said = absurd (cc said)
  fills-from (item value rest) i earlier (first ∷ keys) said =
      let is : keys_of value ≡ Some first = cc in
      let later : map keys_of (items_list rest) ≡ map Some keys = cc in
      one-more i earlier keys rest (λ new. fills-from rest (i + 1) (earlier ++ new ∷ []) keys later) (route_of plan i (Some first))
      ∙ ap (λ (k : Option FourKeys). table_with (and_then (route_of plan i k) (λ r. and_then (if_new i earlier r) (λ new. routes_from plan (i + 1) (earlier ++ new ∷ []) rest)))) (sym is)
