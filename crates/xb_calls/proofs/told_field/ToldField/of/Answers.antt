use Rattle.std.proofs.Common.{ap, arith, length}
use Rattle.std.proofs.lemmas.List.{length-take}
use Rattle.xb_calls.proofs.told_field.ToldField.of.Goals as goal

pub loop-byte-init : goal.loop-byte-init
loop-byte-init c = record {
  told = c.new-told.ensures;
  few = omega (arith, ap length c.beginning-bytes.ensures, length-take 40 c.args.field.now);
}
