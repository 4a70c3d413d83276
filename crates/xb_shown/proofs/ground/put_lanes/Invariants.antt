use Rattle.std.proofs.Common.{◌≡◌}
use Rattle.xb_svg.specs.Drawings.{says}
use Rattle.xb_shown.proofs.ground.put_lanes.Given as goal

abbrev pub invariant-loop-hz : goal.invariant-loop-hz
invariant-loop-hz l = says l.out.items ≡ says l.fn.out.items
