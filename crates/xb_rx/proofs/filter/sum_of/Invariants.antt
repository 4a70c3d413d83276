use Rattle.std.proofs.Common.{◌≡◌, ◌≤◌, ◌*◌, unsigned_abs}
use Rattle.xb_rx.specs.Samples.{sum_of}
use Rattle.xb_rx.proofs.filter.sum_of.Given as goal

abbrev pub invariant-loop-n : goal.invariant-loop-n
invariant-loop-n l = record {
  sum_is : l.sum ≡ sum_of l.frames l.n l.window;
  bound : unsigned_abs l.sum ≤ 302940160 * l.n;
}
