use Rattle.std.proofs.Common.{◌≡◌, drop}
use Rattle.xb_ear.specs.Pairs.{first_pair, pairs_below}
use Rattle.xb_ear.proofs.sight.first_below.Given as goal

abbrev pub invariant-loop-low : goal.invariant-loop-low
invariant-loop-low l =
    first_pair l.least l.levels (pairs_below (drop l.low-index l.lower) l.high)
    ≡ first_pair l.least l.levels (pairs_below l.lower l.high)
