use Rattle.std.proofs.Common.{◌≡◌}
use Rattle.xb_svg.specs.Drawings.{says}
use Rattle.xb_shown.proofs.ground.put_ticks.Given as goal

abbrev pub invariant-loop-step : goal.invariant-loop-step
invariant-loop-step l = says l.out.items ≡ says l.fn.out.items
