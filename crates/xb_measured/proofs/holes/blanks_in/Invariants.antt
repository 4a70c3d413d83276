use Rattle.std.proofs.Common.{◌≡◌, ◌≤◌, ◌+◌, drop, false}
use Rattle.xb_measured.specs.Blanks.{blanks_after}
use Rattle.xb_measured.proofs.holes.blanks_in.Given as goal

abbrev pub invariant-loop-sight : goal.invariant-loop-sight
invariant-loop-sight l = record {
  so_far : l.blanks + blanks_after l.was_blank (drop l.sight-index l.held) ≡ blanks_after false l.held;
  few : l.blanks ≤ l.sight-index;
}
