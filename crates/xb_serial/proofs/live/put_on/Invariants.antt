use Rattle.std.proofs.Common.{◌≡◌, take}
use Rattle.arrayvec.specs.ArrayVec.{array_vec_len}
use Rattle.xb_model.specs.OnLines.{on_line}
use Rattle.xb_serial.proofs.live.put_on.Given as goal

abbrev pub invariant-loop-what : goal.invariant-loop-what
invariant-loop-what l = record {
  items : l.given.items ≡ on_line l.line (take l.what-index l.marks);
  len : array_vec_len l.given ≡ l.what-index;
}
