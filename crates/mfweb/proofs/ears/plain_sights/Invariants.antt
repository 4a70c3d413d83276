use Rattle.std.proofs.Common.{◌≡◌, map, take, length}
use Rattle.mfweb.specs.Ears.{sight_in}
use Rattle.mfweb.proofs.ears.plain_sights.Given as goal

abbrev pub invariant-loop-n : goal.invariant-loop-n
invariant-loop-n l = record {
  written : map sight_in (take l.n l.web) ≡ take l.n l.sights;
  length : length l.web ≡ 64;
}
