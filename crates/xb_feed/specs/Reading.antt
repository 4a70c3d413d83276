-- How many reads of a stream are left.
use Rattle.std.specs.Prelude.{ℕ}
use Rattle.xb_feed.specs.declared.reading.Reads.{Reads}

abbrev pub reads_left : Reads → ℕ
reads_left reads = reads.left
