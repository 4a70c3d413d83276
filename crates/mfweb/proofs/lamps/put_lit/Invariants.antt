use Rattle.std.proofs.Common.{◌≡◌, length, map, take}
use Rattle.mfweb.specs.Lamps.{lit_digit}
use Rattle.mfweb.proofs.lamps.put_lit.Given as goal

abbrev pub invariant-loop-i : goal.invariant-loop-i
invariant-loop-i l = record {
  written : take l.i l.room ≡ map lit_digit (take l.i l.digits);
  length : length l.room ≡ 10;
}
