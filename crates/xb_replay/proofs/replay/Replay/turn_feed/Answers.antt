use Rattle.std.proofs.Common.{refl, subst}
use Rattle.xb_flow.specs.declared.post.Post.TheVariants as posts
use Rattle.xb_posts.specs.Feeds.{IsFeedTurn}
use Rattle.xb_replay.specs.World.{FeedLaw}
use Rattle.xb_replay.proofs.Events.{feed-ended, feed-turned, input-stays}
use Rattle.xb_replay.proofs.Feeds.{feed_law-on, feed_law-looked, feed_law-no_fault}
use Rattle.xb_replay.proofs.LookSteps.{one-ring, input-on}
use Rattle.xb_replay.proofs.Returns.{has-turned}
use Rattle.xb_replay.proofs.Worlds.{world-feed}
use Rattle.xb_replay.proofs.replay.Replay.turn_feed.Goals as goal

pub unreachable-requires : goal.unreachable-requires
unreachable-requires c =
    let i = c.self.inside in
    let fault = subst (λ r. IsFeedTurn c.look.new.up r c.turn.new.self) c.in-Err.is c.turn.ensures.event in
    feed_law-no_fault i.rows.now c.look.new.up c.turn.new.self c.in-Err.field-0
    (feed_law-on i.rows.now c.look.new.up c.turn.new.self c.turn.ensures.feeds_on
    (feed_law-looked i.rows.now i.chain.feed c.look.new.up c.look.ensures.up.0 c.look.ensures.up.1.1 c.self.invariant.feed))
    fault.3.2.1

pub invariant_of-self : goal.invariant_of-self
invariant_of-self c =
    let i = c.self.inside in
    let law : FeedLaw i.rows.now c.look-2.new.up =
    feed_law-looked i.rows.now c.turn.new.self c.look-2.new.up c.look-2.ensures.up.0 c.look-2.ensures.up.1.1
    (feed_law-on i.rows.now c.look.new.up c.turn.new.self c.turn.ensures.feeds_on
    (feed_law-looked i.rows.now i.chain.feed c.look.new.up c.look.ensures.up.0 c.look.ensures.up.1.1 c.self.invariant.feed)) in
    world-feed _ c.self.invariant c.look-2.new.up c.look-2.new.self (one-ring _ _ c.look-2.ensures.ring) law
    (input-on i.chain.pulse c.look.new.self c.look-2.new.self (c.look.ensures.rest, c.look.ensures.consumer.1) (c.look-2.ensures.rest, c.look-2.ensures.consumer.1))

pub returns-clause-lawful : goal.returns-clause-lawful
returns-clause-lawful c = invariant_of-self c

pub returns-clause-turned : goal.returns-clause-turned
returns-clause-turned c =
    let i = c.self.inside in
    let ended = feed-ended i.chain.feed c.look.new.up c.turn.new.self c.look-2.new.up (c.look.ensures.up.0, c.look.ensures.up.1) (c.look-2.ensures.up.0, c.look-2.ensures.up.1) c.turn.result c.in-Ok.turn c.in-Ok.is c.turn.ensures.ended in
    let t = subst (λ r. IsFeedTurn c.look.new.up r c.turn.new.self) c.in-Ok.is c.turn.ensures.event in
    rw (← c.self.view_is) (has-turned _ _ posts.Feed c.in-Ok.turn (record { rows = refl; table = refl; senders = refl })
    (feed-turned i.chain.feed c.look.new.up c.turn.new.self c.look-2.new.up (c.look.ensures.up.0, c.look.ensures.up.1) (c.look-2.ensures.up.0, c.look-2.ensures.up.1) c.in-Ok.turn t ended)
    ended
    (record {
      feed = λ n. absurd (n refl);
      pulse = λ n. input-stays i.chain.pulse c.look-2.new.self (input-on i.chain.pulse c.look.new.self c.look-2.new.self (c.look.ensures.rest, c.look.ensures.consumer.1) (c.look-2.ensures.rest, c.look-2.ensures.consumer.1));
      register = λ n. (refl, refl, refl);
      translate = λ n. (refl, refl, refl);
      deal = λ n. (refl, (refl, λ j p h. refl), refl, refl);
      senders = λ j s n h. (refl, refl, refl);
      gather = λ n. (refl, refl, refl, refl);
      tape = λ n. (refl, refl);
    }))
