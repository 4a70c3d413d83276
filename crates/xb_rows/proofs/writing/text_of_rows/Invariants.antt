use Rattle.std.proofs.Common.{◌≡◌, take, string_bytes}
use Rattle.xb_rows.specs.WrittenRows.{AreRows, text_of_rows}
use Rattle.xb_rows.proofs.writing.text_of_rows.Given as goal

abbrev pub invariant-loop-row : goal.invariant-loop-row
invariant-loop-row l = record {
  text : string_bytes l.text ≡ text_of_rows (take l.row-index l.rows);
  lawful : AreRows (take l.row-index l.rows);
}
