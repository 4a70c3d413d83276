use Rattle.std.proofs.Common.{◌≡◌, ◌≤◌, vec_len, vec_capacity}
use Rattle.std.specs.List.{All}
use Rattle.xb_model.specs.declared.line.TheConstants.{LINES}
use Rattle.xb_model.proofs.per_line.PerLine.from_fn.Given as goal

abbrev pub invariant-loop-line : goal.invariant-loop-line
invariant-loop-line g l = record {
  len : vec_len l.values ≡ l._line;
  room : LINES ≤ vec_capacity l.values;
  made : All (goal.F-post g l.make) l.values.items;
}
