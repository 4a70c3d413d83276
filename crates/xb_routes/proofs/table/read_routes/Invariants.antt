use Rattle.std.proofs.Common.{◌≡◌, ◌+◌, [], drop}
use Rattle.toml.specs.View.{items_view}
use Rattle.xb_routes.specs.Text.{routes_from}
use Rattle.xb_routes.proofs.table.read_routes.Given as goal

abbrev pub invariant-loop-value : goal.invariant-loop-value
invariant-loop-value l = record {
  number : l.i ≡ l.value-index;
  rest : routes_from l.plan 1 [] (items_view l.values) ≡ routes_from l.plan (l.i + 1) l.routes (items_view (drop l.value-index l.values));
}
