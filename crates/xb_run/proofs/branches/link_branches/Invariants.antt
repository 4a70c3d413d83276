use Rattle.std.proofs.Common.{◌≤◌, vec_capacity}
use Rattle.xb_run.specs.Rings.{AreBranches}
use Rattle.xb_run.proofs.branches.link_branches.Given as goal

abbrev pub invariant-loop-branch : goal.invariant-loop-branch
invariant-loop-branch l = record {
  outputs : l.count ≤ vec_capacity l.outputs;
  senders : l.count ≤ vec_capacity l.senders;
  inputs : l.count ≤ vec_capacity l.inputs;
  are : AreBranches l._branch l.ring l.outputs.items l.senders.items l.inputs.items;
}
