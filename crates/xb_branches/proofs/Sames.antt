-- The same ends of a deal, and of a gather, over two steps.
use Rattle.std.proofs.Common.{◌∙◌}
use Rattle.std.specs.Prelude.{slice_index_or}
use Rattle.xb_flow.proofs.Sames.{same_producer, same_consumer}
use Rattle.xb_branches.specs.Deals.{DealOf, SameDeal}
use Rattle.xb_branches.specs.Gathers.{GatherOf, SameGather}

pub same_deal : {T A P Q : Type 0} (a b c : DealOf T A P Q) → SameDeal a b → SameDeal b c → SameDeal a c
same_deal a b c s t = (same_consumer a.consumer b.consumer c.consumer s.0 t.0, t.1 ∙ s.1, λ j p h. same_producer (slice_index_or a.producers j p) (slice_index_or b.producers j p) (slice_index_or c.producers j p) (s.2 j p h) (t.2 j p (rw s.1 h)))

pub same_gather : {T A P Q : Type 0} (a b c : GatherOf T A P Q) → SameGather a b → SameGather b c → SameGather a c
same_gather a b c s t = (t.0 ∙ s.0, (λ j d h. same_consumer (slice_index_or a.consumers j d) (slice_index_or b.consumers j d) (slice_index_or c.consumers j d) (s.1 j d h) (t.1 j d (rw s.0 h))), same_producer a.producer b.producer c.producer s.2 t.2)
