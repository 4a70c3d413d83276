-- The same ends of a station, over two steps.
use Rattle.std.proofs.Common.{◌≡◌, ◌∙◌, subst}
use Rattle.rtrb.specs.declared.producer.Producer.{Producer}
use Rattle.rtrb.specs.declared.consumer.Consumer.{Consumer}
use Rattle.rtrb.specs.Ring.{SameProducer, SameConsumer}
use Rattle.xb_flow.proofs.Sames.{same_producer, same_consumer}
use Rattle.xb_station.specs.Stations.{StationOf, SameStation}

-- what the ends of a station are the same as, seen through its view
pub station_ends : {S I O A P Q : Type 0} (v w : StationOf S I O A P Q) → v ≡ w → (c : Consumer I A P) (p : Producer O A Q) (stage : S) → stage ≡ v.stage → SameConsumer v.consumer c → SameProducer v.producer p
    → (stage ≡ w.stage) × SameConsumer w.consumer c × SameProducer w.producer p
station_ends v w e c p stage a b d = subst (λ x. (stage ≡ x.stage) × SameConsumer x.consumer c × SameProducer x.producer p) e (a, b, d)

pub same_station : {S I O A P Q : Type 0} (a b c : StationOf S I O A P Q) → SameStation a b → SameStation b c → SameStation a c
same_station a b c s t = (t.0 ∙ s.0, same_consumer a.consumer b.consumer c.consumer s.1 t.1, same_producer a.producer b.producer c.producer s.2 t.2)
