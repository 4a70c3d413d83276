use Rattle.std.proofs.Common.{◌≡◌, false}
use Rattle.rtrb.specs.Ring.{SameConsumer}
use Rattle.xb_posts.specs.TapeStations.{has_ended}
use Rattle.xb_posts.proofs.tape_station.TapeStation.drop_rest.Given as goal

abbrev pub invariant-loop : goal.invariant-loop
invariant-loop g l = record {
  can_next : (goal.iterator-loop g).can_next l.iterator';
  finite : (goal.iterator-loop g).is_finite l.iterator';
  same : SameConsumer l.initial.self.consumer l.self.consumer;
  going : has_ended l.self ≡ false;
}
