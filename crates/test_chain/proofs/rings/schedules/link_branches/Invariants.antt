use Rattle.std.proofs.Common.{◌≡◌, ◌≤◌, [], vec_len, vec_capacity}
use Rattle.std.specs.List.{All}
use Rattle.rtrb.specs.Ring.{sent, received}
use Rattle.test_chain.proofs.rings.schedules.link_branches.Given as goal

abbrev pub invariant-loop-branch : goal.invariant-loop-branch
invariant-loop-branch l = record {
  outputs_room : l.count ≤ vec_capacity l.outputs;
  stations_room : l.count ≤ vec_capacity l.stations;
  inputs_room : l.count ≤ vec_capacity l.inputs;
  outputs_len : vec_len l.outputs ≡ l._branch;
  stations_len : vec_len l.stations ≡ l._branch;
  inputs_len : vec_len l.inputs ≡ l._branch;
  outputs : All (λ p. sent p ≡ []) l.outputs.items;
  inputs : All (λ c. received c ≡ []) l.inputs.items;
}
