use Rattle.std.proofs.Common.{◌≡◌, ◌∙◌, length, get_or, refl, sym, ap, subst}
use Rattle.xb_flow.specs.declared.post.Post.TheVariants as posts
use Rattle.xb_replay.specs.Turns.{OutputsStay}
use Rattle.xb_run.specs.Rings.{AreDealt}
use Rattle.xb_replay.proofs.BranchEvents.{deal-turned, deal-place_below, outputs-on, outputs-same, outputs-looked, outputs-ended}
use Rattle.xb_replay.proofs.BranchWorlds.{world-deal}
use Rattle.xb_replay.proofs.Events.{input-stays, output-stays}
use Rattle.xb_replay.proofs.LookSteps.{one-ring, output-on, all-inputs-on}
use Rattle.xb_replay.proofs.Returns.{has-turned}
use Rattle.xb_replay.proofs.replay.Replay.turn_deal.Goals as goal

pub invariant_of-self : goal.invariant_of-self
invariant_of-self c =
    let i = c.self.inside in
    let producers : c.look-2.new.self.producers ≡ c.look_at_outputs-2.new.deal.producers = ap (λ x. x.producers) c.look-2.ensures.rest in
    world-deal _ c.self.invariant c.look-2.new.up c.look-2.new.self c.look_at_outputs-2.new.senders.items
    (output-on i.chain.translate c.look.new.up c.look-2.new.up (c.look.ensures.up.0, c.look.ensures.up.1.1) (c.look-2.ensures.up.0, c.look-2.ensures.up.1.1))
    (one-ring _ _ c.look-2.ensures.ring)
    (ap length producers ∙ (c.look_at_outputs-2.ensures.producers.0 ∙ (c.turn-turn.ensures.ends.1 ∙ (c.look_at_outputs.ensures.producers.0 ∙ ap (λ x. length x.producers) c.look.ensures.rest))))
    c.look-2.ensures.lawful
    (all-inputs-on i.chain.senders.items c.look_at_outputs.new.senders.items c.look_at_outputs-2.new.senders.items c.look_at_outputs.ensures.senders c.look_at_outputs-2.ensures.senders)
    (subst (λ ps. AreDealt ps c.look_at_outputs-2.new.senders.items) (sym producers) c.look_at_outputs-2.ensures.rings)

pub returns-clause-lawful : goal.returns-clause-lawful
returns-clause-lawful c = invariant_of-self c

pub returns-clause-turned : goal.returns-clause-turned
returns-clause-turned c =
    let i = c.self.inside in
    let stay : OutputsStay i.chain.deal.producers c.look_at_outputs.new.deal.producers =
    outputs-on i.chain.deal.producers c.look.new.self.producers c.look_at_outputs.new.deal.producers
    (outputs-same i.chain.deal.producers c.look.new.self.producers (ap (λ x. x.producers) c.look.ensures.rest))
    (outputs-looked c.look.new.self.producers c.look_at_outputs.new.deal.producers c.look_at_outputs.ensures.producers) in
    let ended = outputs-ended i.chain.deal.producers c.look_at_outputs.new.deal.producers c.turn-turn.result stay c.turn-turn.ensures.ended in
    let seen = all-inputs-on i.chain.senders.items c.look_at_outputs.new.senders.items c.look_at_outputs-2.new.senders.items c.look_at_outputs.ensures.senders c.look_at_outputs-2.ensures.senders in
    rw (← c.self.view_is) (has-turned _ _ posts.Deal c.turn-turn.result (record { rows = refl; table = refl; senders = seen.0 })
    (deal-turned i.chain.translate.producer c.look.new.up.producer c.look-2.new.up.producer i.chain.deal c.look.new.self c.look_at_outputs.new.deal c.turn-turn.new.self c.look_at_outputs-2.new.deal c.look-2.new.self
    (c.look.ensures.rest, c.look.ensures.consumer.1) (one-ring _ _ c.look.ensures.ring) c.look.ensures.up.1.1 (c.look_at_outputs.ensures.rest, c.look_at_outputs.ensures.producers) (c.look_at_outputs-2.ensures.rest, c.look_at_outputs-2.ensures.producers) (c.look-2.ensures.rest, c.look-2.ensures.consumer.1) (one-ring _ _ c.look-2.ensures.ring) (c.look-2.ensures.up.1.1 ∙ c.look.ensures.up.1.1)
    (deal-place_below i.chain.deal c.self.invariant.stages.deal) c.turn-turn.result c.turn-turn.ensures.event ended)
    ended
    (record {
      feed = λ n. (refl, refl);
      pulse = λ n. (refl, refl, refl);
      register = λ n. (refl, refl, refl);
      translate = λ n. output-stays i.chain.translate c.look-2.new.up (output-on i.chain.translate c.look.new.up c.look-2.new.up (c.look.ensures.up.0, c.look.ensures.up.1.1) (c.look-2.ensures.up.0, c.look-2.ensures.up.1.1));
      deal = λ n. absurd (n refl);
      senders = λ j s n h. input-stays (get_or i.chain.senders.items j s) (get_or c.look_at_outputs-2.new.senders.items j s) (seen.1 j s h);
      gather = λ n. (refl, refl, refl, refl);
      tape = λ n. (refl, refl);
    }))
