use Rattle.std.proofs.Common.{◌≤◌, length}
use Rattle.xb_rows.specs.StreamBytes.{bytes_left}
use Rattle.xb_rows.specs.declared.kept.TheConstants.{MOST_FIELD_BYTES}
use Rattle.xb_rows.proofs.TakenBytes.{HasRead}
use Rattle.xb_rows.proofs.fields.take_field.Given as goal

abbrev pub invariant-bytes : goal.invariant-bytes
invariant-bytes g l = record {
  short : length l.field.items ≤ MOST_FIELD_BYTES;
  read : HasRead l.fn.state (bytes_left g.R.Read.remaining l.fn.bytes) l.state l.field.items
      (bytes_left g.R.Read.remaining l.bytes);
}
