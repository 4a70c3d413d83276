use Rattle.std.proofs.Common.{◌≡◌, ◌≤◌, ◌+◌, ◌-◌, ◌*◌, IfSome, None, length}
use Rattle.std.specs.List.{range_with_len}
use Rattle.xb_measured.specs.Stretches.{strongest}
use Rattle.xb_measured.proofs.strongest_stretch.strongest.Given as goal

abbrev pub invariant-loop-place : goal.invariant-loop-place
invariant-loop-place l = record {
  so_far : strongest l.kept l.best (range_with_len l.place (l.to - l.place))
      ≡ strongest l.kept None (range_with_len l.from (l.to - l.from));
  fits : IfSome l.best (λ b. 20 * b + 200 ≤ length l.kept);
}
