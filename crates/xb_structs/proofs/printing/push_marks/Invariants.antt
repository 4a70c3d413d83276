use Rattle.std.proofs.Common.{◌≡◌, ◌≤◌, ◌+◌, ◌*◌, ◌++◌, drop, length, map}
use Rattle.xb_model.specs.Page.{marks_text}
use Rattle.xb_structs.specs.EntryLines.{mark_in}
use Rattle.xb_structs.proofs.printing.push_marks.Given as goal

abbrev pub invariant-loop-mark : goal.invariant-loop-mark
invariant-loop-mark l = record {
  text : l.line.bytes ++ marks_text (map mark_in (drop l.mark-index l.marks)) ≡ l.initial.line.bytes ++ marks_text (map mark_in l.marks);
  few : length l.line.bytes ≤ 100 + 33 * l.mark-index;
}
