use Rattle.std.proofs.Common.{◌≡◌, ◌++◌, List, vec_len}
use Rattle.rtrb.specs.Ring.{IsPair}
use Rattle.xb_run.specs.Pairs.{Pairs}
use Rattle.xb_run.specs.Returned.{IsSettled}
use Rattle.xb_run.proofs.senders.settle_senders.Given as goal

abbrev pub invariant-loop-sender : goal.invariant-loop-sender
invariant-loop-sender g l = record {
  above : List _;
  mid : List _;
  below : List _;
  ups : l.fn.before.items ≡ l.before.items ++ above;
  dones : l.fn.senders.items ≡ l.senders.items ++ mid;
  downs : l.fn.after.items ≡ l.after.items ++ below;
  up : Pairs (λ p d. IsPair p d.consumer) l.before.items l.senders.items;
  down : Pairs (λ d c. IsPair d.producer c) l.senders.items l.after.items;
  settled_up : Pairs (λ p d. IsSettled p d.consumer) above mid;
  settled_down : Pairs (λ d c. IsSettled d.producer c) mid below;
}

abbrev pub decreases-loop-sender : goal.decreases-loop-sender
decreases-loop-sender g l = vec_len l.senders
