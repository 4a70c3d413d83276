-- The table that a text writes, with the trunk groups that take dial pulses.
use Rattle.std.specs.Prelude.{◌≡◌, ◌&&◌, ℕ, List, [], ◌∷◌, length, Bool, true, false, not, if◌then◌else◌, codes, Some, is_some, option_and_then, Result, Ok}
use Rattle.std.specs.Result.{result_map_both}
use Rattle.toml.specs.Data.{Data, Items, no_items, item, Members, as_table, get_member}
use Rattle.xb_model.specs.declared.dialled.Dialled.{Dialled}
use Rattle.xb_model.specs.declared.dialled.Dialled.TheVariants as dialled
use Rattle.xb_model.specs.declared.order.Order.{Order}
use Rattle.xb_model.specs.declared.order.Order.TheVariants as orders
use Rattle.xb_model.specs.declared.reason.Reason.TheVariants.{Unknown}
use Rattle.xb_model.specs.Routing.{routed}
use Rattle.xb_routes.specs.declared.fault.RouteFault.{RouteFault}
use Rattle.xb_routes.specs.declared.fault.RouteFault.TheVariants as route_fault
use Rattle.xb_routes.specs.Steps.{and_then, or_fault}
use Rattle.xb_routes.specs.Table.{Table}
use Rattle.xb_routes.specs.Text.{table_of_text, tree_of}
use Rattle.xb_outgoing.specs.declared.fault.OutgoingFault.{OutgoingFault}
use Rattle.xb_outgoing.specs.declared.fault.OutgoingFault.TheVariants as fault
use Rattle.xb_outgoing.specs.Groups.{groups_from, has_group, items_at, no_groups}

pub record Outgoing : Type 0 where
  pub table : Table
  pub pulsed : List ℕ

abbrev pub outgoing : Table → List ℕ → Outgoing
outgoing table pulsed = record { table = table; pulsed = pulsed }

-- a refusal of the route table
abbrev pub of_routes : RouteFault → OutgoingFault
of_routes route_fault.NoMemory = fault.NoMemory
of_routes f = fault.Routes f

-- the trunk groups of a tree
abbrev pub with_groups : Table → Members → Result Outgoing OutgoingFault
with_groups table tree =
    and_then (groups_from 1 no_groups table.routes (items_at (get_member (codes "route") tree))) (λ groups.
    Ok (outgoing table groups.pulsed))

-- the table of a text, or the first refusal: of the route table, and then of `send`
abbrev pub outgoing_of_text : List ℕ → Result Outgoing OutgoingFault
outgoing_of_text text =
    and_then (result_map_both (λ table. table) of_routes (table_of_text text)) (λ table.
    or_fault (fault.Routes route_fault.NotToml) (tree_of text) (with_groups table))

-- an order goes out by dial pulses: it is not refused, and its trunk group takes them
abbrev pub is_dialled : List ℕ → Order → Bool
is_dialled pulsed (orders.Key trunk sent) = has_group pulsed trunk
is_dialled pulsed (orders.Refused reason heard) = false

-- a call of no digits makes no pulse, and so the next office hears no number: to a trunk group that takes dial pulses
-- it is refused, as an unknown number that has so many digits
abbrev pub refused_without_digits : List ℕ → ℕ → Order → Order
refused_without_digits pulsed heard (orders.Key trunk []) =
    if has_group pulsed trunk then orders.Refused Unknown heard else orders.Key trunk []
refused_without_digits pulsed heard (orders.Key trunk (digit ∷ sent)) = orders.Key trunk (digit ∷ sent)
refused_without_digits pulsed heard (orders.Refused reason n) = orders.Refused reason n

-- the order of a number: that of the routes, but of a call of no digits to a group that takes dial pulses
abbrev pub outgoing_routed : Outgoing → List ℕ → Order
outgoing_routed table number = refused_without_digits table.pulsed (length number) (routed table.table.routes number)

-- the order of what was dialled: a refusal stays as it is
abbrev pub outgoing_order : Outgoing → Dialled → Order
outgoing_order table (dialled.Number number) = outgoing_routed table number
outgoing_order table (dialled.Refused reason heard) = orders.Refused reason heard

-- no item is a table with the key `send`
abbrev pub has_send : Data → Bool
has_send value = is_some (option_and_then (λ keys. get_member (codes "send") keys) (as_table value))

abbrev pub are_without_send : Items → Bool
are_without_send no_items = true
are_without_send (item value rest) = (is_some (as_table value) && not (has_send value)) && are_without_send rest

abbrev pub TablesWithoutSend : Type 0
TablesWithoutSend =
    (text : List ℕ) (table : Table) (tree : Members) → table_of_text text ≡ Ok table → tree_of text ≡ Some tree
    → are_without_send (items_at (get_member (codes "route") tree)) ≡ true
    → outgoing_of_text text ≡ Ok (outgoing table [])
