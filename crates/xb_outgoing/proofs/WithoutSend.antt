-- A table without `send`.
use Rattle.std.proofs.Common.{◌≡◌, ◌+◌, ℕ, List, [], ◌∷◌, Option, Some, None, Ok, Bool, true, false, refl, ◌++◌}
use Rattle.std.specs.Prelude.{◌&&◌, not, codes, is_some, option_and_then}
use Rattle.toml.specs.Data.{Data, Items, no_items, item, Members, as_table, get_member}
use Rattle.xb_model.specs.Routing.{CodedRoute}
use Rattle.xb_outgoing.specs.Groups.{groups_from, group_lists, items_at, send_at}
use Rattle.xb_outgoing.specs.Tables.{TablesWithoutSend, are_without_send, has_send}

-- what a route without the key says
send-none : (keys : Option Members)
    → (is_some keys && not (is_some (option_and_then (λ keys. get_member (codes "send") keys) keys))) ≡ true
    → option_and_then (λ keys. send_at (get_member (codes "send") keys)) keys ≡ Some false
send-none None is = absurd (cc)
send-none (Some keys) is = at (get_member (codes "send") keys) is
  where
    at : (held : Option Data) → (true && not (is_some held)) ≡ true → send_at held ≡ Some false
    at None is = refl
    at (Some value) is = absurd (cc)

both : (a b : Bool) → (a && b) ≡ true → (a ≡ true) × (b ≡ true)
both true true is = (refl, refl)
both true false is = absurd (cc)
both false b is = absurd (cc)

-- the trunk groups are keyed
pub groups-keyed : (i : ℕ) (keyed : List ℕ) (routes : List CodedRoute) (items : Items) → are_without_send items ≡ true
    → (groups : List ℕ) × (groups_from i (group_lists keyed []) routes items ≡ Ok (group_lists groups []))
unfolding groups_from
groups-keyed i keyed [] items none = (keyed, refl)
groups-keyed i keyed (route ∷ routes) no_items none = (keyed, refl)
groups-keyed i keyed (route ∷ routes) (item value rest) none =
    let parts = both (is_some (as_table value) && not (has_send value)) (are_without_send rest) none in
    rw (send-none (as_table value) parts.0) (groups-keyed (i + 1) (keyed ++ route.trunk ∷ []) routes rest parts.1)

pub tables_without_send : TablesWithoutSend
tables_without_send text table tree is tree_is none =
    let found = groups-keyed 1 [] table.routes (items_at (get_member (codes "route") tree)) none in
    rw (is, tree_is, found.1) refl
