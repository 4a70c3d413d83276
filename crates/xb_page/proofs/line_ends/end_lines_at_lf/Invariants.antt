use Rattle.std.proofs.Common.{◌≡◌, ◌≤◌, ◌++◌, length, take, drop}
use Rattle.xb_page.specs.LineEnds.{lf_ended}
use Rattle.xb_page.proofs.line_ends.end_lines_at_lf.Given as goal

abbrev pub invariant-loop-at : goal.invariant-loop-at
invariant-loop-at l = record {
  built : take l.kept l.page.items ++ lf_ended (drop l.at l.page.items) ≡ lf_ended l.fn.page.items;
  low : l.kept ≤ l.at;
  same : length l.page.items ≡ length l.fn.page.items;
}
