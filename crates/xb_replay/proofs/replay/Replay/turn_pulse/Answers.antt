use Rattle.std.proofs.Common.{◌∙◌, refl, ap}
use Rattle.rtrb.specs.Ring.{sent}
use Rattle.xb_flow.specs.declared.post.Post.TheVariants as posts
use Rattle.xb_flow.specs.declared.turn.Turn.TheVariants.{Ended}
use Rattle.xb_replay.proofs.Events.{ended-same, station-turned, input-stays}
use Rattle.xb_replay.proofs.LookSteps.{one-ring, mid-ring, mid-stage, input-on, feed-on}
use Rattle.xb_replay.proofs.Returns.{has-turned}
use Rattle.xb_replay.proofs.Worlds.{world-pulse}
use Rattle.xb_replay.proofs.replay.Replay.turn_pulse.Goals as goal

pub invariant_of-self : goal.invariant_of-self
invariant_of-self c =
    let i = c.self.inside in
    world-pulse _ c.self.invariant c.look-4.new.up c.look-4.new.self c.look-3.new.self
    (feed-on i.chain.feed c.look.new.up c.look-4.new.up c.look.ensures.up.0 c.look-4.ensures.up.0)
    (c.look-4.ensures.up.1.1 ∙ c.look.ensures.up.1.1)
    (one-ring _ _ c.look-4.ensures.ring)
    (mid-ring c.look-3.new.up c.look-4.new.self c.look-3.new.self.consumer c.look-4.ensures.rest (one-ring _ _ c.look-3.ensures.ring))
    (mid-stage i.chain.pulse c.look.new.self c.look-2.new.up c.turn-turn.new.self c.look-3.new.up c.look-4.new.self c.look.ensures.rest c.look-2.ensures.up.0 c.turn-turn.ensures.ends.0 c.look-3.ensures.up.0 c.look-4.ensures.rest)
    c.look-4.ensures.lawful
    (input-on i.chain.register c.look-2.new.self c.look-3.new.self (c.look-2.ensures.rest, c.look-2.ensures.consumer.1) (c.look-3.ensures.rest, c.look-3.ensures.consumer.1))

pub returns-clause-lawful : goal.returns-clause-lawful
returns-clause-lawful c = invariant_of-self c

pub returns-clause-turned : goal.returns-clause-turned
returns-clause-turned c =
    let i = c.self.inside in
    let ended = ended-same c.turn-turn.result Ended (sent i.chain.pulse.producer) (sent c.look-2.new.up.producer) (c.look-2.ensures.up.1.1 ∙ ap (λ x. sent x.producer) c.look.ensures.rest) c.turn-turn.ensures.ended in
    rw (← c.self.view_is) (has-turned _ _ posts.Pulse c.turn-turn.result (record { rows = refl; table = refl; senders = refl })
    (station-turned i.chain.feed.producer c.look.new.up.producer c.look-4.new.up.producer i.chain.pulse c.look.new.self c.look-2.new.up c.turn-turn.new.self c.look-3.new.up c.look-4.new.self
    (c.look.ensures.rest, c.look.ensures.consumer.1) (one-ring _ _ c.look.ensures.ring) c.look.ensures.up.1.1 (c.look-2.ensures.up.0, c.look-2.ensures.up.1) (c.look-3.ensures.up.0, c.look-3.ensures.up.1.1) (c.look-4.ensures.rest, c.look-4.ensures.consumer.1) (one-ring _ _ c.look-4.ensures.ring) (c.look-4.ensures.up.1.1 ∙ c.look.ensures.up.1.1)
    c.turn-turn.result c.turn-turn.ensures.event ended)
    ended
    (record {
      feed = λ n. (feed-on i.chain.feed c.look.new.up c.look-4.new.up c.look.ensures.up.0 c.look-4.ensures.up.0, c.look-4.ensures.up.1.1 ∙ c.look.ensures.up.1.1);
      pulse = λ n. absurd (n refl);
      register = λ n. input-stays i.chain.register c.look-3.new.self (input-on i.chain.register c.look-2.new.self c.look-3.new.self (c.look-2.ensures.rest, c.look-2.ensures.consumer.1) (c.look-3.ensures.rest, c.look-3.ensures.consumer.1));
      translate = λ n. (refl, refl, refl);
      deal = λ n. (refl, (refl, λ j p h. refl), refl, refl);
      senders = λ j s n h. (refl, refl, refl);
      gather = λ n. (refl, refl, refl, refl);
      tape = λ n. (refl, refl);
    }))
