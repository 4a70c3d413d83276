use Rattle.rtrb.specs.Ring.{SameProducer}
use Rattle.xb_posts.specs.Feeds.{FeedsOn}
use Rattle.xb_posts.proofs.feed.Feed.serve.Given as goal

abbrev pub invariant-loop : goal.invariant-loop
invariant-loop g l = record {
  can_next : (goal.iterator-loop g).can_next l.iterator';
  finite : (goal.iterator-loop g).is_finite l.iterator';
  same : SameProducer l.initial.self.producer l.self.producer;
  feeds_on : FeedsOn l.initial.self l.self;
}
