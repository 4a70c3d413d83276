use Rattle.std.proofs.Common.{◌≡◌, ◌<◌, length}
use Rattle.xb_model.specs.declared.line.TheConstants.{LINES}
use Rattle.xb_model.specs.LineValues.{IsLeft}
use Rattle.xb_parts.proofs.SameLoads.{AreSameBelow}
use Rattle.xb_parts.proofs.splitting.check_loads.Given as goal

abbrev pub invariant-loop-line : goal.invariant-loop-line
invariant-loop-line l = record {
  can : (goal.iterator-loop-line).can_next l.line-iterator;
  finite : (goal.iterator-loop-line).is_finite l.line-iterator;
  left : IsLeft l.loads (length l.yielded) l.line-iterator;
  lines : 0 < length l.yielded → length l.counted ≡ LINES;
  same : AreSameBelow (length l.yielded) l.loads l.counted;
}
