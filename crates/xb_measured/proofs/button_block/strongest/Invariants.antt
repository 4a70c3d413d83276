use Rattle.std.proofs.Common.{◌≡◌, ◌<◌, ◌^◌, drop, max}
use Rattle.xb_measured.specs.ButtonBlocks.{strongest}
use Rattle.xb_measured.proofs.button_block.strongest.Given as goal

abbrev pub invariant-loop-hz : goal.invariant-loop-hz
invariant-loop-hz l =
    (max l.most (strongest l.block (drop l.hz-index l.frequencies)) ≡ strongest l.block l.frequencies)
    × (l.most < 2 ^ 40)
