-- One route of a table more, or a refusal.
use Rattle.std.proofs.Common.{◌≡◌, ◌∙◌, ◌≤◌, ◌<◌, ◌+◌, ℕ, List, [], ◌∷◌, length, get_or, drop, map, Some, None, Ok, Err, Bool, true, false, refl, ap, ap₂}
use Rattle.std.proofs.lemmas.List.{drop_all, drop_more}
use Rattle.toml.specs.Data.{Data, Items, no_items, item}
use Rattle.toml.specs.View.{items_view, view}
use Rattle.toml.specs.declared.value.Value.{Value}
use Rattle.toml.proofs.Views.{items_view-drop}
use Rattle.xb_model.specs.Routing.{CodedRoute}
use Rattle.xb_routes.specs.declared.route.Entry.{Entry}
use Rattle.xb_routes.specs.Coded.{coded}
use Rattle.xb_outgoing.specs.declared.fault.OutgoingFault.TheVariants as fault
use Rattle.xb_outgoing.specs.Groups.{GroupLists, groups_from, has_group, others, send_of, with_group}

module _ (i : ℕ) (groups : GroupLists) (route : CodedRoute) (routes : List CodedRoute) (value : Data) (rest : Items) where
  item-wrong : send_of value ≡ None → groups_from i groups (route ∷ routes) (item value rest) ≡ Err (fault.Send i)
  unfolding groups_from
  item-wrong r = rw r refl

  module _ (pulsed : Bool) (r : send_of value ≡ Some pulsed) where
    item-differs : has_group (others groups pulsed) route.trunk ≡ true
        → groups_from i groups (route ∷ routes) (item value rest) ≡ Err (fault.Differs i)
    unfolding groups_from
    item-differs t = rw (r, t) refl

    item-taken : has_group (others groups pulsed) route.trunk ≡ false
        → groups_from i groups (route ∷ routes) (item value rest)
        ≡ groups_from (i + 1) (with_group groups route.trunk pulsed) routes rest
    unfolding groups_from
    item-taken t = rw (r, t) refl

pub no-route : (i : ℕ) (groups : GroupLists) (items : Items) → groups_from i groups [] items ≡ Ok groups
unfolding groups_from
no-route i groups items = refl

pub no-item : (i : ℕ) (groups : GroupLists) (routes : List CodedRoute) → groups_from i groups routes no_items ≡ Ok groups
unfolding groups_from
no-item i groups [] = refl
no-item i groups (route ∷ routes) = refl

module _ (i k : ℕ) (groups : GroupLists) (entries : List Entry) (values : List Value) where
  -- no route is left
  pub routes-end : length entries ≤ k
      → groups_from i groups (map coded (drop k entries)) (items_view (drop k values)) ≡ Ok groups
  routes-end h = ap (λ rest. groups_from i groups (map coded rest) (items_view (drop k values))) (drop_all k entries h)
      ∙ no-route i groups (items_view (drop k values))

  -- no item is left
  pub items-end : length values ≤ k
      → groups_from i groups (map coded (drop k entries)) (items_view (drop k values)) ≡ Ok groups
  items-end h = ap (λ rest. groups_from i groups (map coded (drop k entries)) (items_view rest)) (drop_all k values h)
      ∙ no-item i groups (map coded (drop k entries))

  module _ (entry : Entry) (value : Value) (below : k < length entries) (e : entry ≡ get_or entries k entry)
      (h : k < length values) (v : value ≡ get_or values k value) where
    items-here : items_view (drop k values) ≡ item (view value) (items_view (drop (k + 1) values))
    items-here = rw (items_view-drop values k value h, ← v) refl

    routes-here : map coded (drop k entries) ≡ coded entry ∷ map coded (drop (k + 1) entries)
    routes-here = rw (drop_more entries k entry below, ← e) refl

    here : groups_from i groups (map coded (drop k entries)) (items_view (drop k values))
        ≡ groups_from i groups (coded entry ∷ map coded (drop (k + 1) entries))
        (item (view value) (items_view (drop (k + 1) values)))
    here = ap₂ (λ routes items. groups_from i groups routes items) routes-here items-here

    pub route-wrong : send_of (view value) ≡ None
        → groups_from i groups (map coded (drop k entries)) (items_view (drop k values)) ≡ Err (fault.Send i)
    route-wrong r = here ∙ item-wrong i groups (coded entry) (map coded (drop (k + 1) entries)) (view value)
        (items_view (drop (k + 1) values)) r

    pub route-differs : (pulsed : Bool) → send_of (view value) ≡ Some pulsed
        → has_group (others groups pulsed) entry.route.trunk ≡ true
        → groups_from i groups (map coded (drop k entries)) (items_view (drop k values)) ≡ Err (fault.Differs i)
    route-differs pulsed r t = here ∙ item-differs i groups (coded entry) (map coded (drop (k + 1) entries)) (view value)
        (items_view (drop (k + 1) values)) pulsed r t

    pub route-taken : (pulsed : Bool) → send_of (view value) ≡ Some pulsed
        → has_group (others groups pulsed) entry.route.trunk ≡ false
        → groups_from i groups (map coded (drop k entries)) (items_view (drop k values))
        ≡ groups_from (i + 1) (with_group groups entry.route.trunk pulsed) (map coded (drop (k + 1) entries))
        (items_view (drop (k + 1) values))
    route-taken pulsed r t = here ∙ item-taken i groups (coded entry) (map coded (drop (k + 1) entries)) (view value)
        (items_view (drop (k + 1) values)) pulsed r t
