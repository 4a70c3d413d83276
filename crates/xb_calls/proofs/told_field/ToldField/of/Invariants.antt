use Rattle.std.proofs.Common.{◌≡◌, ◌≤◌, length, map, take}
use Rattle.xb_calls.specs.ToldFields.{visible}
use Rattle.xb_calls.proofs.told_field.ToldField.of.Given as goal

abbrev pub invariant-loop-byte : goal.invariant-loop-byte
invariant-loop-byte l = record {
  told : l.told ≡ map visible (take l.byte-index l.bytes);
  few : length l.bytes ≤ 40;
}
