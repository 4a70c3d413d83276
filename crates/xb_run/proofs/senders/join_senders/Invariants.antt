use Rattle.std.proofs.Common.{◌≡◌, ◌+◌, ◌≤◌, ◌++◌, List, reverse, vec_len, vec_capacity}
use Rattle.xb_run.specs.Pairs.{Pairs}
use Rattle.xb_run.specs.Started.{IsStarted}
use Rattle.xb_run.proofs.senders.join_senders.Given as goal

abbrev pub invariant-loop-sender : goal.invariant-loop-sender
invariant-loop-sender g l = record {
  taken : List _;
  split : reverse l.fn.started.items ≡ taken ++ reverse l.started.items;
  zipped : Pairs (λ started done. (post : _) → IsStarted g.P.Threaded.promised post started → g.P.Threaded.promised post done) taken l.all.items;
  room : vec_len l.started + vec_len l.all ≤ vec_capacity l.all;
}

abbrev pub decreases-loop-sender : goal.decreases-loop-sender
decreases-loop-sender g l = vec_len l.started
