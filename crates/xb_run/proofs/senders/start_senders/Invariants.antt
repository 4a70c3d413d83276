use Rattle.std.proofs.Common.{◌≡◌, ◌+◌, ◌≤◌, ◌++◌, List, IfSome, reverse, vec_len, vec_capacity}
use Rattle.xb_run.specs.Faults.{IsPostOf}
use Rattle.xb_run.specs.Pairs.{Pairs}
use Rattle.xb_run.specs.Started.{IsStarted}
use Rattle.xb_run.proofs.senders.start_senders.Given as goal

abbrev pub invariant-loop-sender : goal.invariant-loop-sender
invariant-loop-sender g l = record {
  done : List _;
  split : l.fn.senders.items ≡ l.senders.items ++ done;
  zipped : Pairs (IsStarted g.P.Threaded.promised) done (reverse l.started.items);
  few : vec_len l.senders ≤ 8;
  count : vec_len l.senders + vec_len l.started ≡ vec_len l.fn.senders;
  room : vec_len l.senders + vec_len l.started ≤ vec_capacity l.started;
  refused : IfSome l.fn.starter.refused (IsPostOf (vec_len l.fn.senders)) → IfSome l.starter.refused (IsPostOf (vec_len l.fn.senders));
}

abbrev pub decreases-loop-sender : goal.decreases-loop-sender
decreases-loop-sender g l = vec_len l.senders
