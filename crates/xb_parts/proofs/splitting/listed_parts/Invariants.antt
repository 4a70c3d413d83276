use Rattle.std.proofs.Common.{◌≡◌, map, take}
use Rattle.xb_parts.specs.Splits.{listed}
use Rattle.xb_parts.proofs.splitting.listed_parts.Given as goal

abbrev pub invariant-loop-range : goal.invariant-loop-range
invariant-loop-range l = l.parts.items ≡ map (listed l.loads) (take l.range-index l.fn.ranges)
