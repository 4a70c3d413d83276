use Rattle.std.proofs.Common.{◌≡◌, take}
use Rattle.xb_serial.specs.Office.{HasTaken}
use Rattle.xb_serial.proofs.so_far.marks_so_far.Given as goal

abbrev pub invariant-loop-row : goal.invariant-loop-row
invariant-loop-row l = record {
  taken : HasTaken l.live (take l.row-index l.rows) l.marks.items;
  table : l.live.table ≡ l.initial.live.table;
}
