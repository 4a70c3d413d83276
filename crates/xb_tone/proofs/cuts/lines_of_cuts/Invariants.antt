use Rattle.std.proofs.Common.{◌≡◌, ◌++◌, length, string_bytes}
use Rattle.xb_tone.specs.Cuts.{lines_of_cuts}
use Rattle.xb_tone.proofs.cuts.lines_of_cuts.Given as goal

abbrev pub invariant-loop-before : goal.invariant-loop-before
invariant-loop-before l =
    lines_of_cuts l.program l.cadence l.entries ≡ string_bytes l.text ++ lines_of_cuts l.program l.cadence l.left

abbrev pub decreases-loop-before : goal.decreases-loop-before
decreases-loop-before l = length l.left
