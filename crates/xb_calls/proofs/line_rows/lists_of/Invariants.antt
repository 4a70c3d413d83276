use Rattle.std.proofs.Common.{◌≡◌, take, map, length}
use Rattle.xb_model.specs.LineValues.{IsLeft}
use Rattle.xb_calls.specs.LineRows.{lists_of}
use Rattle.xb_calls.proofs.line_rows.lists_of.Given as goal

abbrev pub invariant-loop-line : goal.invariant-loop-line
invariant-loop-line l = record {
  can : (goal.iterator-loop-line).can_next l._line-iterator;
  finite : (goal.iterator-loop-line).is_finite l._line-iterator;
  left : IsLeft l.lines (length l.yielded) l._line-iterator;
  lists : lists_of l.lists.items ≡ map (λ rows. rows.items) (take (length l.yielded) l.lines);
}
