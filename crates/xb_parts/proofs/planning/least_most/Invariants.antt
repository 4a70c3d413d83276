use Rattle.std.proofs.Common.{◌≤◌, ◌<◌, ◌-◌, ℕ}
use Rattle.xb_parts.specs.Plans.{AreEnough}
use Rattle.xb_parts.proofs.planning.least_most.Given as goal

abbrev pub invariant-loop-low : goal.invariant-loop-low
invariant-loop-low l = record {
  ordered : l.low ≤ l.high;
  within : l.high ≤ l.fn.most.records;
  fewer : (m : ℕ) → m < l.low → AreEnough l.parts l.loads (record { records = m; bytes = l.fn.most.bytes }) → ⊥;
  enough : l.high < l.fn.most.records → AreEnough l.parts l.loads (record { records = l.high; bytes = l.fn.most.bytes });
}

abbrev pub decreases-loop-low : goal.decreases-loop-low
decreases-loop-low l = l.high - l.low
