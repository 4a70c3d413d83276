use Rattle.std.proofs.Common.{◌≡◌, take}
use Rattle.arrayvec.specs.ArrayVec.{array_vec_len}
use Rattle.xb_structs.proofs.filling.with_route.Given as goal

abbrev pub invariant-loop-other : goal.invariant-loop-other
invariant-loop-other l = record {
  items : l.all.items ≡ take l.other-index l.routes;
  len : array_vec_len l.all ≡ l.other-index;
}
