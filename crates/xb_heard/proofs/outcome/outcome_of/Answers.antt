use Rattle.std.proofs.Common.{map, refl}
use Rattle.xb_heard.specs.Digits.{digit_in}
use Rattle.xb_heard.specs.Outcomes.{values_of}
use Rattle.xb_heard.proofs.Numbers.{outcome-from-first}
use Rattle.xb_heard.proofs.outcome.outcome_of.Goals as goal

pub loop-digit-init : goal.loop-digit-init
loop-digit-init c = record {
  pending = rw c.new-good.ensures refl;
  rest = rw c.new-good.ensures
      (outcome-from-first c.args.plan c.args.timed (values_of (map digit_in c.args.digits.now)));
}
