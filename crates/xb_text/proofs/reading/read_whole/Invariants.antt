use Rattle.std.proofs.Common.{length, ◌≤◌, ◌+◌, ◌-◌}
use Rattle.std.specs.Io.KnownBytes.{Consumes}
use Rattle.xb_text.proofs.reading.read_whole.Given as goal

abbrev pub invariant-loop-buffer : goal.invariant-loop-buffer
invariant-loop-buffer g l = record {
  read : Consumes (g.R.Read.remaining l.initial.reader) (g.R.Read.remaining l.reader) l.bytes.items;
  few : length l.bytes.items ≤ l.limit + 1;
}

abbrev pub decreases-loop-buffer : goal.decreases-loop-buffer
decreases-loop-buffer g l = l.limit + 1 - length l.bytes.items
