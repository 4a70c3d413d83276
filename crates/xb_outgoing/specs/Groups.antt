-- How calls are sent to the trunk groups of routes, by the key `send`.
use Rattle.std.specs.Prelude.{ℕ, ◌+◌, ◌==◌, List, [], ◌∷◌, ◌++◌, codes, bytes_eq, Bool, true, false, if◌then◌else◌, Option, Some, None, option_and_then, unwrap_or, Result, Ok, Err}
use Rattle.std.specs.List.{list_any}
use Rattle.toml.specs.Data.{Data, Items, no_items, item, as_array, as_str, as_table, get_member}
use Rattle.xb_model.specs.Routing.{CodedRoute}
use Rattle.xb_routes.specs.Steps.{and_then, or_fault}
use Rattle.xb_outgoing.specs.declared.fault.OutgoingFault.{OutgoingFault}
use Rattle.xb_outgoing.specs.declared.fault.OutgoingFault.TheVariants as fault

-- `dp` says dial pulses, and no other text says anything
abbrev pub says_pulses : List ℕ → Option Bool
says_pulses text = if bytes_eq text (codes "dp") then Some true else None

-- a route without the key is keyed
abbrev pub send_at : Option Data → Option Bool
send_at None = Some false
send_at (Some value) = option_and_then says_pulses (as_str value)

-- whether a route is sent by dial pulses, if its `send` is right
abbrev pub send_of : Data → Option Bool
send_of value = option_and_then (λ keys. send_at (get_member (codes "send") keys)) (as_table value)

-- the trunk groups that are keyed, and those that take dial pulses
pub record GroupLists : Type 0 where
  pub keyed : List ℕ
  pub pulsed : List ℕ

abbrev pub group_lists : List ℕ → List ℕ → GroupLists
group_lists keyed pulsed = record { keyed = keyed; pulsed = pulsed }

abbrev pub no_groups : GroupLists
no_groups = group_lists [] []

abbrev pub has_group : List ℕ → ℕ → Bool
has_group groups trunk = list_any (λ group. group == trunk) groups

-- those that are sent to in the other way
abbrev pub others : GroupLists → Bool → List ℕ
others groups true = groups.keyed
others groups false = groups.pulsed

abbrev pub with_group : GroupLists → ℕ → Bool → GroupLists
with_group groups trunk true = group_lists groups.keyed (groups.pulsed ++ trunk ∷ [])
with_group groups trunk false = group_lists (groups.keyed ++ trunk ∷ []) groups.pulsed

-- route i does not differ from an earlier one of its trunk group
abbrev pub with_route : ℕ → GroupLists → ℕ → Bool → Result GroupLists OutgoingFault
with_route i groups trunk pulsed = if has_group (others groups pulsed) trunk then Err (fault.Differs i)
    else Ok (with_group groups trunk pulsed)

-- the trunk groups of routes after those of the earlier ones, by the items that they are read of, of which the next is
-- that of route i; or the first fault
unfoldable pub groups_from : ℕ → GroupLists → List CodedRoute → Items → Result GroupLists OutgoingFault
groups_from i earlier [] items = Ok earlier
groups_from i earlier (route ∷ routes) no_items = Ok earlier
groups_from i earlier (route ∷ routes) (item value rest) =
    or_fault (fault.Send i) (send_of value) (λ pulsed.
    and_then (with_route i earlier route.trunk pulsed) (λ groups.
    groups_from (i + 1) groups routes rest))

-- the items of the key `route`
abbrev pub items_at : Option Data → Items
items_at None = no_items
items_at (Some value) = unwrap_or (as_array value) no_items
