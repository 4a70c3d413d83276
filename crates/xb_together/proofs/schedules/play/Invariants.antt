use Rattle.std.proofs.Common.{◌≡◌}
use Rattle.xb_together.proofs.schedules.play.Given as goal

abbrev pub invariant-loop-post : goal.invariant-loop-post
invariant-loop-post l = record {
  rows : l.replay.rows ≡ l.fn.replay.rows;
  table : l.replay.table ≡ l.fn.replay.table;
}
