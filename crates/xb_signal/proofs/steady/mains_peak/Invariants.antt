use Rattle.std.proofs.Common.{◌≡◌, ◌-◌, ◌≤◌}
use Rattle.std.specs.Prelude.{max}
use Rattle.xb_signal.specs.Steadies.{mains_peak, peak_from}
use Rattle.xb_signal.proofs.steady.mains_peak.Given as goal

abbrev pub invariant-loop-n : goal.invariant-loop-n
invariant-loop-n l = record {
  peak : max l.peak (peak_from l.amplitude l.n (400 - l.n)) ≡ mains_peak l.amplitude;
  small : l.peak ≤ 524280;
}
