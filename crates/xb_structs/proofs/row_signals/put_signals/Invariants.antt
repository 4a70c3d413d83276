use Rattle.std.proofs.Common.{◌≡◌, length, map, take}
use Rattle.xb_structs.specs.Signals.{plain_signal}
use Rattle.xb_structs.proofs.row_signals.put_signals.Given as goal

abbrev pub invariant-loop-i : goal.invariant-loop-i
invariant-loop-i l = record {
  written : take l.i l.room ≡ map plain_signal (take l.i l.signals);
  length : length l.room ≡ length l.initial.room;
}
