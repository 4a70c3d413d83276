use Rattle.std.proofs.Common.{◌≡◌, ◌*◌, ◌-◌, ◌≤◌, ◌+ℤ◌, unsigned_abs}
use Rattle.std.specs.List.{range_with_len}
use Rattle.xb_signal.specs.Steadies.{harmonics}
use Rattle.xb_signal.proofs.steady.mains_sample.Given as goal

abbrev pub invariant-loop-number : goal.invariant-loop-number
invariant-loop-number l = record {
  sum :
      l.sum +ℤ harmonics l.amplitude (range_with_len l.number (9 - l.number)) l.n
      ≡ harmonics l.amplitude (range_with_len 1 8) l.n;
  small : unsigned_abs l.sum ≤ 65535 * (l.number - 1);
  begun : 1 ≤ l.number;
}
