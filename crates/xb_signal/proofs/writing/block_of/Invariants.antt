use Rattle.std.proofs.Common.{◌≡◌, ◌*◌, ◌-◌, ◌≤◌, length}
use Rattle.xb_signal.specs.OneSample.{sample_at}
use Rattle.xb_signal.proofs.Blocks.{bytes_from}
use Rattle.xb_signal.proofs.writing.block_of.Given as goal

abbrev pub invariant-loop-n : goal.invariant-loop-n
invariant-loop-n l = record {
  bytes : l.block ≡ bytes_from l.setting.form (sample_at l.setting l.moment l.sound) l.from (l.n - l.from);
  size : length l.block ≤ 2 * (l.n - l.from);
  begun : l.from ≤ l.n;
}
