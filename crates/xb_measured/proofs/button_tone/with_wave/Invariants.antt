use Rattle.std.proofs.Common.{◌≡◌, ◌≤◌, ◌*◌, drop, ◌+ℤ◌, unsigned_abs}
use Rattle.xb_ear.specs.Levels.{correlated}
use Rattle.xb_measured.specs.ButtonBlocks.{wave_of}
use Rattle.xb_measured.proofs.button_tone.with_wave.Given as goal

abbrev pub invariant-loop-x : goal.invariant-loop-x
invariant-loop-x l =
    (l.n ≡ l.x-index)
    × ((l.sum +ℤ correlated (wave_of l.hz l.ahead) l.x-index (drop l.x-index l.block)) ≡ correlated (wave_of l.hz l.ahead) 0 l.block)
    × (unsigned_abs l.sum ≤ 327680000 * l.x-index)
