-- The rings between the posts, once their ends are in one thread again.
use Rattle.std.specs.Prelude.{◌≡◌}
use Rattle.rtrb.specs.Ring.{sent, received, IsPair}
use Rattle.xb_flow.specs.Flows.{IsEnded}
use Rattle.xb_run.specs.Posts.{Output, Input}
use Rattle.xb_run.specs.Pairs.{Pairs}
use Rattle.xb_run.specs.declared.done.AllDone.{AllDone}

-- R holds of the two ends of each ring, once the posts came back
pub record EachRing (R : (T : Type 0) → Output T → Input T → Type 0) (done : AllDone) : Type 0 where
  pub rows : R _ done.feed.producer done.pulse.consumer
  pub signals : R _ done.pulse.producer done.register.consumer
  pub dialled : R _ done.register.producer done.translate.consumer
  pub orders : R _ done.translate.producer done.deal.consumer
  pub before : Pairs (λ end sender. R _ end sender.consumer) done.deal.producers.items done.senders.items
  pub after : Pairs (λ sender end. R _ sender.producer end) done.senders.items done.gather.consumers.items
  pub marks : R _ done.gather.producer done.tape.consumer

-- they are the two ends of one ring
abbrev pub AreRejoined : AllDone → Type 0
AreRejoined done = EachRing (λ T p c. IsPair p c) done

-- where both lists end with an End, all that was sent was received
abbrev pub IsSettled : {T : Type 0} → Output T → Input T → Type 0
IsSettled p c = IsEnded (received c) → IsEnded (sent p) → received c ≡ sent p

-- each ring is settled
abbrev pub AreSettled : AllDone → Type 0
AreSettled done = EachRing (λ T p c. IsSettled p c) done
