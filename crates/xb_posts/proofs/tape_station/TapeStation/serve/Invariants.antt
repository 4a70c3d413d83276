use Rattle.std.proofs.Common.{◌≡◌}
use Rattle.rtrb.specs.Ring.{SameConsumer}
use Rattle.xb_posts.proofs.tape_station.TapeStation.serve.Given as goal

abbrev pub invariant-loop : goal.invariant-loop
invariant-loop g l = record {
  can_next : (goal.iterator-loop g).can_next l.iterator';
  finite : (goal.iterator-loop g).is_finite l.iterator';
  same : SameConsumer l.initial.self.consumer l.self.consumer;
  lost : l.self.lost ≡ l.initial.self.lost;
}
