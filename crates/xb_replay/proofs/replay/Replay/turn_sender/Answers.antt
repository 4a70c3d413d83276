use Rattle.std.proofs.Common.{◌≡◌, ◌<◌, arith, get_or-set_same, get_or-set_other, length-set, ◌↔◌, ◌∙◌, true, length, get_or, refl, sym, ap, subst}
use Rattle.rtrb.specs.Ring.{sent, received}
use Rattle.xb_flow.specs.declared.post.Post.TheVariants as posts
use Rattle.xb_flow.specs.declared.turn.Turn.TheVariants.{Ended}
use Rattle.xb_flow.specs.Flows.{has_end}
use Rattle.std.proofs.lemmas.List.{get_or_read}
use Rattle.xb_flow.proofs.Rings.{received_looked}
use Rattle.xb_replay.specs.Looks.{InputLooked}
use Rattle.xb_station.specs.Stations.{Stays as StationStays}
use Rattle.xb_replay.proofs.BranchWorlds.{world-sender}
use Rattle.xb_replay.proofs.Events.{StationTurned, ended-same, station-turned}
use Rattle.xb_replay.proofs.LookSteps.{one-ring, mid-ring, outputs-on, outputs-kept, inputs-kept}
use Rattle.xb_replay.proofs.Returns.{sender-has-turned}
use Rattle.xb_replay.proofs.replay.Replay.turn_sender.Goals as goal

pub invariant_of-self : goal.invariant_of-self
invariant_of-self c =
    let i = c.self.inside in
    let below : c.args.number < length i.chain.senders.items = omega (arith, i.chain.senders.ok.0, c.if-number-len.false, c.len.ensures) in
    world-sender _ c.self.invariant c.args.number c.look-4.new.up c.look-4.new.self c.look-3.new.self below
    (outputs-kept i.chain.deal c.look.new.up c.look-4.new.up c.look.ensures.up.0 c.look-4.ensures.up.0)
    (outputs-on i.chain.deal.producers c.look.new.up.producers c.look-4.new.up.producers c.look.ensures.up.1 c.look-4.ensures.up.1)
    c.look-4.ensures.up.2
    (λ p. c.look-4.ensures.ring.1 p)
    (λ x. mid-ring c.look-3.new.up c.look-4.new.self (get_or c.look-3.new.self.consumers c.args.number x) c.look-4.ensures.rest (one-ring _ _ (c.look-3.ensures.ring x)))
    c.look-4.ensures.lawful
    (inputs-kept i.chain.gather c.look-2.new.self c.look-3.new.self c.look-2.ensures.rest c.look-3.ensures.rest)
    (c.look-3.ensures.consumers.0 ∙ c.look-2.ensures.consumers.0)
    (λ k x other. c.look-3.ensures.consumers.2 k x other ∙ c.look-2.ensures.consumers.2 k x other)
    c.look-3.ensures.lawful

pub returns-clause-lawful : goal.returns-clause-lawful
returns-clause-lawful c = invariant_of-self c

pub returns-clause-turned : goal.returns-clause-turned
returns-clause-turned c =
    let i = c.self.inside in
    let below : c.args.number < length i.chain.senders.items = omega (arith, i.chain.senders.ok.0, c.if-number-len.false, c.len.ensures) in
    let looked = ended-same c.turn-turn.result Ended (sent c.index_mut-sender.result.now.producer) (sent c.look-2.new.up.producer) (c.look-2.ensures.up.1.1 ∙ ap (λ x. sent x.producer) c.look.ensures.rest) c.turn-turn.ensures.ended in
    let in_deal : c.args.number < length i.chain.deal.producers = subst (λ n. c.args.number < n) (sym c.self.invariant.links.outputs) below in
    let again : c.args.number < length c.look.new.up.producers = subst (λ n. c.args.number < n) (sym c.look.ensures.up.1.0) in_deal in
    let kept = outputs-kept i.chain.deal c.look.new.up c.look-4.new.up c.look.ensures.up.0 c.look-4.ensures.up.0 in
    let seen = inputs-kept i.chain.gather c.look-2.new.self c.look-3.new.self c.look-2.ensures.rest c.look-3.ensures.rest in
    rw (← c.self.view_is) (sender-has-turned _ _ c.args.number c.turn-turn.result below (record { rows = refl; table = refl; senders = length-set i.chain.senders.items c.args.number c.look-4.new.self })
    (λ p s.
    let old = get_or i.chain.senders.items c.args.number s in
    let same : c.index_mut-sender.result.now ≡ old = get_or_read i.chain.senders.items c.args.number c.index_mut-sender.result.now below c.index_mut-sender.ensures.value s in
    let took : InputLooked old c.look.new.self = subst (λ v. InputLooked v c.look.new.self) same (c.look.ensures.rest, c.look.ensures.consumer.1) in
    subst (λ z. StationTurned (sent (get_or i.chain.deal.producers c.args.number p)) old z c.turn-turn.result) (sym (get_or-set_same i.chain.senders.items c.args.number c.look-4.new.self s below))
    (station-turned (get_or i.chain.deal.producers c.args.number p) (get_or c.look.new.up.producers c.args.number p) (get_or c.look-4.new.up.producers c.args.number p) old c.look.new.self c.look-2.new.up c.turn-turn.new.self c.look-3.new.up c.look-4.new.self
    took (c.look.ensures.ring.1 p) (c.look.ensures.up.1.1 c.args.number p in_deal).1 (c.look-2.ensures.up.0, c.look-2.ensures.up.1) (c.look-3.ensures.up.0, c.look-3.ensures.up.1.1) (c.look-4.ensures.rest, c.look-4.ensures.consumer.1) (c.look-4.ensures.ring.1 p) ((c.look-4.ensures.up.1.1 c.args.number p again).1 ∙ (c.look.ensures.up.1.1 c.args.number p in_deal).1)
    c.turn-turn.result c.turn-turn.ensures.event (subst (λ z. (c.turn-turn.result ≡ Ended) ↔ (has_end (sent z.producer) ≡ true)) same looked))) (
      (λ h. (below, λ s. subst (λ z. has_end (sent z.producer) ≡ true) (get_or_read i.chain.senders.items c.args.number c.index_mut-sender.result.now below c.index_mut-sender.ensures.value s) (looked.0 h))),
      λ h. looked.1 (subst (λ z. has_end (sent z.producer) ≡ true) (sym (get_or_read i.chain.senders.items c.args.number c.index_mut-sender.result.now below c.index_mut-sender.ensures.value c.index_mut-sender.result.now)) (h.1 c.index_mut-sender.result.now)),
    )
    (record {
      feed = λ n. (refl, refl);
      pulse = λ n. (refl, refl, refl);
      register = λ n. (refl, refl, refl);
      translate = λ n. (refl, refl, refl);
      deal = λ n. (ap (λ x. received x.consumer) kept, (c.look-4.ensures.up.1.0 ∙ c.look.ensures.up.1.0, λ k p h. (c.look-4.ensures.up.1.1 k p (subst (λ m. k < m) (sym c.look.ensures.up.1.0) h)).1 ∙ (c.look.ensures.up.1.1 k p h).1), ap (λ x. x.held) kept, ap (λ x. x.place) kept);
      senders = λ k s n h. subst (StationStays (get_or i.chain.senders.items k s)) (sym (get_or-set_other i.chain.senders.items c.args.number k c.look-4.new.self s (λ same. n (ap posts.Send same)))) (refl, refl, refl);
      gather = λ n. (received_looked c.look-2.new.self.consumers c.args.number c.look-3.new.self.consumers c.look-3.ensures.consumers ∙ received_looked i.chain.gather.consumers c.args.number c.look-2.new.self.consumers c.look-2.ensures.consumers, ap (λ x. sent x.producer) seen, ap (λ x. x.held) seen, ap (λ x. x.place) seen);
      tape = λ n. (refl, refl);
    }))
