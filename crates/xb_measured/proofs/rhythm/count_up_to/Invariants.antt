use Rattle.std.proofs.Common.{◌≡◌, ◌≤◌, ◌+◌, drop}
use Rattle.xb_measured.specs.Rhythms.{count_up_to}
use Rattle.xb_measured.proofs.rhythm.count_up_to.Given as goal

abbrev pub invariant-loop-time : goal.invariant-loop-time
invariant-loop-time l = record {
  so_far : l.count + count_up_to l.ms (drop l.time-index l.times) ≡ count_up_to l.ms l.times;
  few : l.count ≤ l.time-index;
}
