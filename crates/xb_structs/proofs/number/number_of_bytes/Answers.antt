use Rattle.std.proofs.Common.{map, refl}
use Rattle.xb_structs.specs.Numbers.{digit_or_none}
use Rattle.xb_structs.proofs.NumberSteps.{number-from-first}
use Rattle.xb_structs.proofs.number.number_of_bytes.Goals as goal

pub loop-byte-init : goal.loop-byte-init
loop-byte-init c = record {
  pending = rw c.new-number.ensures refl;
  rest = rw c.new-number.ensures (number-from-first c.args.plan (map digit_or_none c.args.bytes.now));
}
