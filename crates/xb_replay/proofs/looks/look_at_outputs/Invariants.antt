use Rattle.std.proofs.Common.{◌≡◌, ◌<◌, ◌≤◌, ℕ, get_or}
use Rattle.xb_model.specs.declared.on.On.{On}
use Rattle.xb_model.specs.declared.order.Order.{Order}
use Rattle.xb_flow.specs.Rings.{IsRing, ProducersLooked}
use Rattle.xb_replay.specs.Looks.{AllInputsLooked}
use Rattle.xb_run.specs.Posts.{SenderPost, Output}
use Rattle.xb_replay.proofs.looks.look_at_outputs.Given as goal

abbrev pub invariant-loop-j : goal.invariant-loop-j
invariant-loop-j l = record {
  rest : l.deal ≡ record l.fn.deal { producers = l.deal.producers };
  looked : ProducersLooked l.fn.deal.producers l.deal.producers;
  seen : AllInputsLooked l.fn.senders.items l.senders.items;
  same : (i : ℕ) (s : SenderPost) → l.j ≤ i → get_or l.senders.items i s ≡ get_or l.fn.senders.items i s;
  rings : (i : ℕ) (p : Output (On Order)) (s : SenderPost) → i < l.j → IsRing (get_or l.deal.producers i p) (get_or l.senders.items i s).consumer;
}
