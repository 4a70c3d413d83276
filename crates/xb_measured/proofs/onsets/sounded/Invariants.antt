use Rattle.std.proofs.Common.{◌≡◌, ◌≤◌, ◌+◌, ◌-◌, ◌*◌}
use Rattle.std.specs.List.{range_with_len, sum_by}
use Rattle.xb_measured.specs.Onsets.{level_at, share_of}
use Rattle.xb_measured.proofs.onsets.sounded.Given as goal

abbrev pub invariant-loop-step : goal.invariant-loop-step
invariant-loop-step l = record {
  so_far : l.shares + sum_by (λ step. share_of (level_at l.hz l.round step) l.last) (range_with_len l.step (5 - l.step))
      ≡ sum_by (λ step. share_of (level_at l.hz l.round step) l.last) (range_with_len 0 5);
  few : l.shares ≤ 1000 * l.step;
}
