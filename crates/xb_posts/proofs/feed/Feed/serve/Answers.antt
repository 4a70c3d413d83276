use Rattle.std.proofs.Common.{rules, ◌≡◌, true}
use Rattle.xb_posts.specs.Feeds.{has_fed}
use Rattle.xb_posts.proofs.Feeds.{feeds_on-then, has_fed-whole}
use Rattle.xb_posts.proofs.feed.Feed.serve.Goals as goal

pub returns-in-Ok-Ended-clause-served : goal.returns-in-Ok-Ended-clause-served
returns-in-Ok-Ended-clause-served g c =
    let over : has_fed c.turn.new.self ≡ true = search rules in
    has_fed-whole _ _ (feeds_on-then _ _ _ c.loop.invariant.feeds_on c.turn.ensures.feeds_on) over c.stopped_by.ensures.rest _ c.stopped_by.ensures.value

pub loop-preserved-in-Ok-Moved : goal.loop-preserved-in-Ok-Moved
loop-preserved-in-Ok-Moved g c = record {
  can_next = search rules;
  finite = search rules;
  same = search rules;
  feeds_on = feeds_on-then _ _ _ c.loop.invariant.feeds_on c.turn.ensures.feeds_on;
}

pub loop-preserved-in-Ok-Idle : goal.loop-preserved-in-Ok-Idle
loop-preserved-in-Ok-Idle g c = record {
  can_next = search rules;
  finite = search rules;
  same = search rules;
  feeds_on = feeds_on-then _ _ _ c.loop.invariant.feeds_on c.turn.ensures.feeds_on;
}

pub loop-preserved : goal.loop-preserved
loop-preserved g c = record {
  can_next = search rules;
  finite = search rules;
  same = search rules;
  feeds_on = feeds_on-then _ _ _ c.loop.invariant.feeds_on c.turn.ensures.feeds_on;
}
