use Rattle.std.proofs.Common.{◌≡◌, ◌<◌, ◌∙◌, length, get_or, refl, sym, ap, subst}
use Rattle.rtrb.specs.Ring.{sent}
use Rattle.xb_flow.specs.declared.post.Post.TheVariants as posts
use Rattle.xb_flow.specs.declared.turn.Turn.TheVariants.{Ended}
use Rattle.xb_flow.specs.Rings.{IsRing}
use Rattle.xb_replay.proofs.BranchEvents.{gather-turned, gather-place_below}
use Rattle.xb_replay.proofs.BranchWorlds.{world-gather}
use Rattle.xb_replay.proofs.Events.{ended-same, output-stays, tape-on}
use Rattle.xb_replay.proofs.LookSteps.{one-ring, all-outputs-on, gather-looked}
use Rattle.xb_replay.proofs.Returns.{has-turned}
use Rattle.xb_replay.proofs.replay.Replay.turn_gather.Goals as goal

pub invariant_of-self : goal.invariant_of-self
invariant_of-self c =
    let i = c.self.inside in
    let producer : c.look_at_inputs-2.new.gather.producer ≡ c.look-2.new.up.producer = ap (λ x. x.producer) c.look_at_inputs-2.ensures.rest in
    world-gather _ c.self.invariant c.look_at_inputs-2.new.senders.items c.look_at_inputs-2.new.gather c.look-2.new.self
    (all-outputs-on i.chain.senders.items c.look_at_inputs.new.senders.items c.look_at_inputs-2.new.senders.items c.look_at_inputs.ensures.senders c.look_at_inputs-2.ensures.senders)
    c.look_at_inputs-2.ensures.rings
    (c.look_at_inputs-2.ensures.consumers.0 ∙ (ap (λ x. length x.consumers) c.look-2.ensures.up.0 ∙ (c.turn-turn.ensures.ends.0 ∙ (ap (λ x. length x.consumers) c.look.ensures.up.0 ∙ c.look_at_inputs.ensures.consumers.0))))
    (gather-looked c.look-2.new.up c.look_at_inputs-2.new.gather c.look_at_inputs-2.ensures.rest c.look_at_inputs-2.ensures.consumers c.look-2.ensures.up.2)
    (subst (λ p. IsRing p c.look-2.new.self.consumer) (sym producer) (one-ring _ _ c.look-2.ensures.ring))
    c.look-2.ensures.lawful
    (ap (λ x. x.lost) c.look-2.ensures.rest ∙ (ap (λ x. x.lost) c.look.ensures.rest ∙ c.self.invariant.stages.lost))

pub returns-clause-lawful : goal.returns-clause-lawful
returns-clause-lawful c = invariant_of-self c

pub returns-clause-turned : goal.returns-clause-turned
returns-clause-turned c =
    let i = c.self.inside in
    let ended = ended-same c.turn-turn.result Ended (sent i.chain.gather.producer) (sent c.look.new.up.producer) (c.look.ensures.up.1.1 ∙ ap (λ x. sent x.producer) c.look_at_inputs.ensures.rest) c.turn-turn.ensures.ended in
    let gives = all-outputs-on i.chain.senders.items c.look_at_inputs.new.senders.items c.look_at_inputs-2.new.senders.items c.look_at_inputs.ensures.senders c.look_at_inputs-2.ensures.senders in
    let count : length c.look_at_inputs-2.new.gather.consumers ≡ length i.chain.gather.consumers =
    c.look_at_inputs-2.ensures.consumers.0 ∙ (ap (λ x. length x.consumers) c.look-2.ensures.up.0 ∙ (c.turn-turn.ensures.ends.0 ∙ (ap (λ x. length x.consumers) c.look.ensures.up.0 ∙ c.look_at_inputs.ensures.consumers.0))) in
    rw (← c.self.view_is) (has-turned _ _ posts.Gather c.turn-turn.result (record { rows = refl; table = refl; senders = gives.0 })
    (gather-turned i.chain.senders.items c.look_at_inputs.new.senders.items i.chain.gather c.look_at_inputs.new.gather c.look.new.up c.turn-turn.new.self c.look-2.new.up c.look_at_inputs-2.new.gather
    (c.look_at_inputs.ensures.rest, c.look_at_inputs.ensures.consumers) c.look_at_inputs.ensures.rings (c.look_at_inputs.ensures.senders.0, λ j s h. (c.look_at_inputs.ensures.senders.1 j s h).1) (c.look.ensures.up.0, c.look.ensures.up.1) (c.look-2.ensures.up.0, c.look-2.ensures.up.1) (c.look_at_inputs-2.ensures.rest, c.look_at_inputs-2.ensures.consumers)
    c.look_at_inputs-2.new.senders.items c.look_at_inputs-2.ensures.rings (gives.0, λ j s h. (gives.1 j s h).1) count c.self.invariant.links.inputs
    (λ awaits. subst (λ n. i.chain.gather.place < n) c.self.invariant.links.inputs (gather-place_below i.chain.gather c.self.invariant.stages.gather awaits)) c.turn-turn.result c.turn-turn.ensures.event ended)
    ended
    (record {
      feed = λ n. (refl, refl);
      pulse = λ n. (refl, refl, refl);
      register = λ n. (refl, refl, refl);
      translate = λ n. (refl, refl, refl);
      deal = λ n. (refl, (refl, λ j p h. refl), refl, refl);
      senders = λ j s n h. output-stays (get_or i.chain.senders.items j s) (get_or c.look_at_inputs-2.new.senders.items j s) (gives.1 j s h);
      gather = λ n. absurd (n refl);
      tape = λ n. tape-on i.chain.tape c.look.new.self c.look-2.new.self (c.look.ensures.rest, c.look.ensures.consumer.1) (c.look-2.ensures.rest, c.look-2.ensures.consumer.1);
    }))
