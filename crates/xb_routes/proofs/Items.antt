-- One item more of an array.
use Rattle.std.proofs.Common.{◌≡◌, ◌≢◌, ℕ, ◌+◌, List, [], ◌∷◌, ◌++◌, Option, Some, None, Result, Ok, Err, Bool, true, false, refl}
use Rattle.std.specs.Prelude.{if◌then◌else◌, ◌&&◌, ◌==◌, length}
use Rattle.std.specs.List.{list_any}
use Rattle.toml.specs.Data.{Data, Items, no_items, item}
use Rattle.xb_model.specs.declared.plan.Plan.{Plan}
use Rattle.xb_model.specs.Routing.{CodedRoute, coded_route}
use Rattle.xb_routes.specs.declared.fault.RouteFault.{RouteFault}
use Rattle.xb_routes.specs.declared.fault.RouteFault.TheVariants as fault
use Rattle.xb_routes.specs.Codes.{code_of, number_length}
use Rattle.xb_routes.specs.Keys.{FourKeys, keys_of}
use Rattle.xb_routes.specs.Steps.{or_fault}
use Rattle.xb_routes.specs.Text.{deleted_of, has_code, if_keying, prefixed_of, route_of, routes_from, trunk_of}

module _ (plan : Plan) (i : ℕ) (earlier : List CodedRoute) (value : Data) (rest : Items) where
  -- an item that is refused by itself
  pub item-refused : (f : RouteFault) → route_of plan i (keys_of value) ≡ Err f
      → routes_from plan i earlier (item value rest) ≡ Err f
  unfolding routes_from
  item-refused f r = rw r refl

  module _ (route : CodedRoute) (r : route_of plan i (keys_of value) ≡ Ok route) where
    -- one whose code an earlier route has
    pub item-twice : list_any (has_code route.code) earlier ≡ true
        → routes_from plan i earlier (item value rest) ≡ Err (fault.Twice i)
    unfolding routes_from
    item-twice t = rw (r, t) refl

    -- one whose code no earlier route has
    pub item-taken : list_any (has_code route.code) earlier ≡ false
        → routes_from plan i earlier (item value rest) ≡ routes_from plan (i + 1) (earlier ++ route ∷ []) rest
    unfolding routes_from
    item-taken t = rw (r, t) refl

-- no item is left
pub items-end : (plan : Plan) (i : ℕ) (earlier : List CodedRoute) → routes_from plan i earlier no_items ≡ Ok earlier
unfolding routes_from
items-end plan i earlier = refl

-- what a step may refuse with, and what comes after it
or_fault-refuses : {A B : Type 0} (many f : RouteFault) → f ≢ many → (o : Option A) (next : A → Result B RouteFault)
    → ((x : A) → next x ≢ Err many) → or_fault f o next ≢ Err many
or_fault-refuses many f other None next more = λ e. other (cc)
or_fault-refuses many f other (Some x) next more = more x

-- no item by itself is too many
pub alone-few : (plan : Plan) (i : ℕ) (keys : Option FourKeys) → route_of plan i keys ≢ Err fault.TooMany
alone-few plan i keys =
    or_fault-refuses fault.TooMany (fault.Shape i) (λ e. cc) keys _ (λ k.
    or_fault-refuses fault.TooMany (fault.Code i) (λ e. cc) (code_of plan k.code) _ (λ code.
    or_fault-refuses fault.TooMany (fault.Trunk i) (λ e. cc) (trunk_of k.trunk) _ (λ trunk.
    or_fault-refuses fault.TooMany (fault.Delete i) (λ e. cc) (deleted_of (number_length plan code) k.delete) _ (λ deleted.
    or_fault-refuses fault.TooMany (fault.Prefix i) (λ e. cc) (prefixed_of k.prefix) _ (λ prefixed.
    keying (coded_route code trunk deleted prefixed))))))
  where
    keying : (route : CodedRoute) → if_keying plan i route ≢ Err fault.TooMany
    keying route = by ((route.deleted == number_length plan route.code) && (length route.prefixed == 0))
      where
        by : (b : Bool) → (if b then Err (fault.NothingToKey i) else Ok route) ≢ Err fault.TooMany
        by true = λ e. cc
        by false = λ e. cc
