use Rattle.std.proofs.Common.{◌≤◌, length, map, take}
use Rattle.xb_routes.specs.Coded.{coded}
use Rattle.xb_structs.specs.Routes.{HaveCodeLengths, HaveSameRoutes, Rise}
use Rattle.xb_structs.proofs.reading.sorted.Given as goal

abbrev pub invariant-loop-entry : goal.invariant-loop-entry
invariant-loop-entry l = record {
  rise : Rise l.routes.items;
  same : HaveSameRoutes l.routes.items (map coded (take l.entry-index l.entries));
  lengths : HaveCodeLengths (map coded (take l.entry-index l.entries));
  few : length l.routes.items ≤ l.entry-index;
}
