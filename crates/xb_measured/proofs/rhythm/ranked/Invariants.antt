use Rattle.std.proofs.Common.{◌≡◌, drop}
use Rattle.xb_measured.specs.Rhythms.{ranked, ranked_among}
use Rattle.xb_measured.proofs.rhythm.ranked.Given as goal

abbrev pub invariant-loop-time : goal.invariant-loop-time
invariant-loop-time l = ranked_among l.least l.rank l.times (drop l.time-index l.times) ≡ ranked l.rank l.times
