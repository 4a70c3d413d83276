use Rattle.std.proofs.Common.{◌≡◌, length, take}
use Rattle.xb_structs.proofs.reading.put_routes.Given as goal

abbrev pub invariant-loop-i : goal.invariant-loop-i
invariant-loop-i l = record {
  written : take l.i l.room ≡ take l.i l.routes;
  length : length l.room ≡ length l.initial.room;
}
