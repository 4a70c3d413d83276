use Rattle.std.proofs.Common.{◌≡◌, drop, take}
use Rattle.xb_ear.specs.Pairs.{first_pair, mf_pairs, pairs_among, six}
use Rattle.xb_ear.proofs.sight.seen.Given as goal

abbrev pub invariant-loop-place : goal.invariant-loop-place
invariant-loop-place l =
    first_pair l.least l.levels (pairs_among (take l.place six) (drop l.place six)) ≡ first_pair l.least l.levels mf_pairs
