use Rattle.std.proofs.Common.{◌≡◌}
use Rattle.xb_picture.specs.Said.{says}
use Rattle.xb_picture.proofs.axis.put_ticks.Given as goal

abbrev pub invariant-loop-half_seconds : goal.invariant-loop-half_seconds
invariant-loop-half_seconds l = says l.sheet ≡ says l.fn.sheet
