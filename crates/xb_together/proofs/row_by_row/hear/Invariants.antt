use Rattle.std.proofs.Common.{◌≡◌, ◌≤◌, [], ◌++◌, drop, vec_capacity}
use Rattle.xb_model.specs.Image.{image_from, image_on}
use Rattle.xb_model.specs.declared.stage.TheConstants.{OUTPUT_ROOM}
use Rattle.xb_pulse.specs.Machine.{machine}
use Rattle.xb_together.proofs.row_by_row.hear.Given as goal

abbrev pub invariant-loop-row : goal.invariant-loop-row
invariant-loop-row l = record {
  empty : l.sent.items ≡ [];
  room : OUTPUT_ROOM ≤ vec_capacity l.sent;
  heard : l.heard.items ++ image_from (machine l.pulse) l.state (drop l.row-index l.rows) ≡ image_on (machine l.pulse) l.rows;
}
