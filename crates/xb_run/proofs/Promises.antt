-- What the posts' threads promise, of what a serve leaves.
use Rattle.std.proofs.Common.{◌≡◌, Bool, true, false, map, get_or, refl, sym, ◌∙◌, subst, arith}
use Rattle.std.proofs.lemmas.Bool.{false≢true}
use Rattle.rtrb.specs.Ring.{sent, received, SameProducer, SameConsumer}
use Rattle.xb_branches.specs.Deals.{DealOf, HasDealt, SameDeal}
use Rattle.xb_branches.specs.Gathers.{GatherOf, GatherLaw, HasMerged, SameGather}
use Rattle.std.specs.declared.alloc.Global.{Global}
use Rattle.rtrb.specs.declared.AnyItems.{AnyItems}
use Rattle.xb_run.specs.Posts.{Output, Input}
use Rattle.xb_run.specs.Promises.{DealServed, GatherServed, DealPromised, GatherPromised}
use Rattle.xb_run.specs.declared.done.DealDone.{DealDone}
use Rattle.xb_run.specs.declared.done.GatherDone.{GatherDone}
use Rattle.xb_run.proofs.Pairs.{pairs-at, pairs-places}

pub same_producer : {T : Type 0} (p : Output T) → SameProducer p p
same_producer p = ((refl, refl, refl, refl), refl)

pub same_consumer : {T : Type 0} (c : Input T) → SameConsumer c c
same_consumer c = ((refl, refl, refl, refl), refl)

module _ {T : Type 0} where
  deal_served : (deal : DealOf T Global AnyItems AnyItems) → HasDealt deal → DealServed (received deal.consumer) deal.producers
  deal_served deal h = record { input = h.input; outputs = h.outputs }

  -- the ends come back, and where the deal served what it dealt
  pub deal_promised : (old new : DealOf T Global AnyItems AnyItems) (done : DealDone T) → SameDeal old new → done.consumer ≡ new.consumer → done.producers.items ≡ new.producers
      → (done.served ≡ true → HasDealt new) → DealPromised old done
  deal_promised old new done same ec ep s = record {
    input = subst (λ (c : Input T). SameConsumer old.consumer c) (sym ec) same.0;
    outputs = pairs-at refl (sym ep) (pairs-places SameProducer old.producers new.producers same.1 same.2);
    served = λ yes.
        subst (λ ps. DealServed (received done.consumer) ps) (sym ep)
        (subst (λ (c : Input T). DealServed (received c) new.producers) (sym ec) (deal_served new (s yes)));
  }

  pub deal_stopped : (deal : DealOf T Global AnyItems AnyItems) (done : DealDone T) → done.consumer ≡ deal.consumer → done.producers.items ≡ deal.producers → done.served ≡ false → DealPromised deal done
  deal_stopped deal done ec ep idle =
      deal_promised deal deal done (same_consumer deal.consumer, refl, λ j p lt. same_producer (get_or deal.producers j p)) ec ep
      (λ yes. absurd (false≢true (sym idle ∙ yes)))

  module _ (ends : T → Bool) where
    gather_served : (gather : GatherOf T Global AnyItems AnyItems) → GatherLaw ends gather → HasMerged ends gather → GatherServed ends (map received gather.consumers) (sent gather.producer)
    gather_served gather law h = record { some = omega (arith, law.least); inputs = h.inputs; output = h.output }

    -- the ends come back, and where the gather served what it merged
    pub gather_promised : (old new : GatherOf T Global AnyItems AnyItems) (done : GatherDone T) → SameGather old new → done.consumers.items ≡ new.consumers → done.producer ≡ new.producer
        → (done.served ≡ true → GatherLaw ends new × HasMerged ends new) → GatherPromised ends old done
    gather_promised old new done same ec ep s = record {
      inputs = pairs-at refl (sym ec) (pairs-places SameConsumer old.consumers new.consumers same.0 same.1);
      output = subst (λ (p : Output T). SameProducer old.producer p) (sym ep) same.2;
      served = λ yes.
          subst (λ cs. GatherServed ends (map received cs) (sent done.producer)) (sym ec)
          (subst (λ (p : Output T). GatherServed ends (map received new.consumers) (sent p)) (sym ep) (gather_served new (s yes).0 (s yes).1));
    }

    pub gather_stopped : (gather : GatherOf T Global AnyItems AnyItems) (done : GatherDone T) → done.consumers.items ≡ gather.consumers → done.producer ≡ gather.producer → done.served ≡ false
        → GatherPromised ends gather done
    gather_stopped gather done ec ep idle =
        gather_promised gather gather done (refl, (λ j c lt. same_consumer (get_or gather.consumers j c)), same_producer gather.producer) ec ep
        (λ yes. absurd (false≢true (sym idle ∙ yes)))
