use Rattle.std.proofs.Common.{◌≡◌, ◌+◌, drop, map}
use Rattle.toml.specs.View.{items_view}
use Rattle.xb_routes.specs.Coded.{coded}
use Rattle.xb_outgoing.specs.Groups.{groups_from, no_groups}
use Rattle.xb_outgoing.proofs.groups.groups_of.Given as goal

abbrev pub invariant-loop-value : goal.invariant-loop-value
invariant-loop-value l = record {
  number : l.place ≡ l.value-index;
  rest : groups_from 1 no_groups (map coded l.entries) (items_view l.values)
      ≡ groups_from (l.place + 1) l.groups (map coded (drop l.value-index l.entries)) (items_view (drop l.value-index l.values));
}
