use Rattle.std.proofs.Common.{◌≡◌, length}
use Rattle.xb_model.specs.LineValues.{IsLeft}
use Rattle.xb_parts.proofs.RangeRecords.{records_before}
use Rattle.xb_parts.proofs.splitting.records_in.Given as goal

abbrev pub invariant-loop-line : goal.invariant-loop-line
invariant-loop-line l = record {
  can : (goal.iterator-loop-line).can_next l.line-iterator;
  finite : (goal.iterator-loop-line).is_finite l.line-iterator;
  left : IsLeft l.loads (length l.yielded) l.line-iterator;
  records : l.records ≡ records_before l.loads l.lines (length l.yielded);
}
