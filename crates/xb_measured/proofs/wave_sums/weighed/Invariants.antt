use Rattle.std.proofs.Common.{◌≡◌, ◌≤◌, ◌+◌, ◌*◌, drop, ◌+ℤ◌, unsigned_abs}
use Rattle.xb_measured.specs.Waves.{wave, weighed, weights}
use Rattle.xb_measured.proofs.wave_sums.weighed.Given as goal

abbrev pub invariant-loop-x : goal.invariant-loop-x
invariant-loop-x l = record {
  place : l.place ≡ l.x-index;
  n : l.n ≡ l.from + l.x-index;
  sum : l.sum +ℤ weighed (wave l.hz l.ahead) l.n (drop l.x-index weights) (drop l.x-index l.samples)
      ≡ weighed (wave l.hz l.ahead) l.from weights l.samples;
  bound : unsigned_abs l.sum ≤ 655360000000 * l.x-index;
}
