use Rattle.std.proofs.Common.{◌≡◌, ◌≤◌, length, map, take}
use Rattle.xb_incoming.specs.declared.key.TheConstants.{TIME_OUT_MS}
use Rattle.xb_incoming.specs.Machine.{HasTaken}
use Rattle.xb_onward.specs.Keys.{key_in}
use Rattle.xb_onward.specs.Outcomes.{outcome_in}
use Rattle.xb_onward.proofs.registering.take_keys.Given as goal

abbrev pub invariant-loop-key : goal.invariant-loop-key
invariant-loop-key l = record {
  taken : HasTaken TIME_OUT_MS l.register (map key_in (take l.key-index l.keys)) (map outcome_in (take l.count l.room));
  few : l.count ≤ l.key-index;
  length : length l.room ≡ length l.initial.room;
}
