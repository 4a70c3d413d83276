use Rattle.std.proofs.Common.{arith}
use Rattle.xb_run.proofs.BranchLists.{branches-none, branch-more}
use Rattle.xb_run.proofs.branches.link_branches.Goals as goal

pub loop-branch-init : goal.loop-branch-init
loop-branch-init c = record {
  outputs = omega (arith, c.in_ok-outputs.ensures.exact);
  senders = omega (arith, c.in_ok-senders.ensures.exact);
  inputs = omega (arith, c.in_ok-inputs.ensures.exact);
  are = rw (c.in_ok-outputs.ensures.items, c.in_ok-senders.ensures.items, c.in_ok-inputs.ensures.items) (branches-none c.args.ring);
}

pub loop-branch-preserved : goal.loop-branch-preserved
loop-branch-preserved c =
    let l = c.loop-branch in
    let o = c.in_ok-output.ensures in
    let s = c.in_ok-sender.ensures in
    let p = c.push_reserved.ensures in
    let q = c.push_reserved-in-loop-branch.ensures in
    let r = c.push_reserved-in-loop-branch-2.ensures in
    record {
      outputs = omega (arith, p.capacity, l.invariant.outputs);
      senders = omega (arith, q.capacity, l.invariant.senders);
      inputs = omega (arith, r.capacity, l.invariant.inputs);
      are = rw (p.items, q.items, r.items)
          (branch-more l._branch c.args.ring l.outputs.items l.senders.items l.inputs.items l.invariant.are c.in_ok-output.output c.in_ok-sender.sender c.in_ok-sender.input
          (rw s.input o.ring) s.ring.0 o.producer.2 s.ring.1 o.producer.0 s.blank s.lawful s.ring.3);
    }
