use Rattle.std.proofs.Common.{◌≡◌, ◌*◌, ◌≤◌, drop, ◌+ℤ◌, unsigned_abs}
use Rattle.xb_signal.specs.Waves.{chorus}
use Rattle.xb_signal.proofs.wave.chorus.Given as goal

abbrev pub invariant-loop-hz : goal.invariant-loop-hz
invariant-loop-hz l = record {
  sum : l.sum +ℤ chorus l.amplitude (drop l.hz-index l.tones) l.n ≡ chorus l.amplitude l.tones l.n;
  small : unsigned_abs l.sum ≤ 65535 * l.hz-index;
}
