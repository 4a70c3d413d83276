use Rattle.std.proofs.Common.{◌≡◌, ◌<◌, ◌≤◌, ℕ, get_or}
use Rattle.xb_model.specs.declared.on.On.{On}
use Rattle.xb_model.specs.declared.mark.Mark.{Mark}
use Rattle.xb_flow.specs.Rings.{IsRing}
use Rattle.xb_replay.specs.Looks.{AllOutputsLooked, ConsumersLooked}
use Rattle.xb_run.specs.Posts.{SenderPost, Input}
use Rattle.xb_replay.proofs.looks.look_at_inputs.Given as goal

abbrev pub invariant-loop-k : goal.invariant-loop-k
invariant-loop-k l = record {
  rest : l.gather ≡ record l.fn.gather { consumers = l.gather.consumers };
  looked : ConsumersLooked l.fn.gather.consumers l.gather.consumers;
  seen : AllOutputsLooked l.fn.senders.items l.senders.items;
  same : (i : ℕ) (s : SenderPost) → l.k ≤ i → get_or l.senders.items i s ≡ get_or l.fn.senders.items i s;
  still : (i : ℕ) (x : Input (On Mark)) → l.k ≤ i → get_or l.gather.consumers i x ≡ get_or l.fn.gather.consumers i x;
  rings : (i : ℕ) (s : SenderPost) (x : Input (On Mark)) → i < l.k → IsRing (get_or l.senders.items i s).producer (get_or l.gather.consumers i x);
}
