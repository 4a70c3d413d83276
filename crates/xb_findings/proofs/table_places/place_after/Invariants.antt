use Rattle.std.proofs.Common.{◌≡◌, ◌+◌, ◌≤◌, drop}
use Rattle.xb_findings.specs.Places.{place_after}
use Rattle.xb_findings.proofs.table_places.place_after.Given as goal

abbrev pub invariant-loop-byte : goal.invariant-loop-byte
invariant-loop-byte l = record {
  rest : place_after l.here (drop l.byte-index l.bytes) ≡ place_after l.fn.place l.bytes;
  line : l.here.line ≤ l.fn.place.line + l.byte-index;
  column : l.here.column ≤ l.fn.place.column + l.byte-index;
}
