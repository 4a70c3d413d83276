-- The same ends of rings, over two steps.
use Rattle.std.proofs.Common.{◌∙◌}
use Rattle.rtrb.specs.declared.producer.Producer.{Producer}
use Rattle.rtrb.specs.declared.consumer.Consumer.{Consumer}
use Rattle.rtrb.specs.Ring.{SameProducer, SameConsumer}

pub same_producer : {T A P : Type 0} (a b c : Producer T A P) → SameProducer a b → SameProducer b c → SameProducer a c
same_producer a b c s t = ((t.0.0 ∙ s.0.0, t.0.1 ∙ s.0.1, t.0.2 ∙ s.0.2, t.0.3 ∙ s.0.3), t.1 ∙ s.1)

pub same_consumer : {T A P : Type 0} (a b c : Consumer T A P) → SameConsumer a b → SameConsumer b c → SameConsumer a c
same_consumer a b c s t = ((t.0.0 ∙ s.0.0, t.0.1 ∙ s.0.1, t.0.2 ∙ s.0.2, t.0.3 ∙ s.0.3), t.1 ∙ s.1)
