use Rattle.std.proofs.Common.{◌∙◌, map, refl, ap}
use Rattle.rtrb.specs.Ring.{received}
use Rattle.xb_run.specs.Chains.{posts_of}
use Rattle.xb_replay.proofs.BranchWorlds.{world-tape}
use Rattle.xb_replay.proofs.Events.{tape-ended, tape-turned, tape-refused, tape-kept}
use Rattle.xb_replay.proofs.LookSteps.{one-ring, gather-on}
use Rattle.xb_replay.proofs.Others.{tape-others}
use Rattle.xb_replay.proofs.Returns.{tape-has-turned, tape-has-refused}
use Rattle.xb_replay.proofs.replay.Replay.turn_tape.Goals as goal

pub invariant_of-self : goal.invariant_of-self
invariant_of-self c =
    let i = c.self.inside in
    world-tape _ c.self.invariant c.look-2.new.up c.look-2.new.self (gather-on i.chain.gather c.look.new.up c.look-2.new.up c.look.ensures.up.0 c.look-2.ensures.up.0) c.look-2.ensures.up.2 (one-ring _ _ c.look-2.ensures.ring) c.look-2.ensures.lawful
    (tape-kept i.chain.tape c.look.new.self c.turn-turn.new.self c.look-2.new.self c.look.ensures.rest c.look-2.ensures.rest c.turn-turn.result c.turn-turn.ensures.event c.self.invariant.stages.lost)

pub returns-clause-lawful : goal.returns-clause-lawful
returns-clause-lawful c = invariant_of-self c

pub returns-clause-turned : goal.returns-clause-turned
returns-clause-turned c =
    let i = c.self.inside in
    let ended = tape-ended i.chain.gather.producer c.look.new.up.producer c.look-2.new.up.producer i.chain.tape c.look.new.self c.turn-turn.new.self c.look-2.new.self
    (c.look.ensures.rest, c.look.ensures.consumer) (one-ring _ _ c.look.ensures.ring) c.look.ensures.up.1.1 (c.look-2.ensures.rest, c.look-2.ensures.consumer) (one-ring _ _ c.look-2.ensures.ring) (c.look-2.ensures.up.1.1 ∙ c.look.ensures.up.1.1) c.turn-turn.result c.turn-turn.ensures.ended in
    let same = gather-on i.chain.gather c.look.new.up c.look-2.new.up c.look.ensures.up.0 c.look-2.ensures.up.0 in
    rw (← c.self.view_is) (tape-has-turned _ _ (record { rows = refl; table = refl; senders = refl })
    (tape-others (posts_of i.chain) c.look-2.new.up c.look-2.new.self
    (ap (λ x. map received x.consumers) same, c.look-2.ensures.up.1.1 ∙ c.look.ensures.up.1.1, ap (λ x. x.held) same, ap (λ x. x.place) same))
    c.turn-turn.result ended
    (tape-turned i.chain.gather.producer c.look.new.up.producer c.look-2.new.up.producer i.chain.tape c.look.new.self c.turn-turn.new.self c.look-2.new.self
    (c.look.ensures.rest, c.look.ensures.consumer) (one-ring _ _ c.look.ensures.ring) c.look.ensures.up.1.1 (c.look-2.ensures.rest, c.look-2.ensures.consumer) (one-ring _ _ c.look-2.ensures.ring) (c.look-2.ensures.up.1.1 ∙ c.look.ensures.up.1.1) c.turn-turn.result c.turn-turn.ensures.event ended))

pub returns-clause-refused : goal.returns-clause-refused
returns-clause-refused c =
    let i = c.self.inside in
    let ended = tape-ended i.chain.gather.producer c.look.new.up.producer c.look-2.new.up.producer i.chain.tape c.look.new.self c.turn-turn.new.self c.look-2.new.self
    (c.look.ensures.rest, c.look.ensures.consumer) (one-ring _ _ c.look.ensures.ring) c.look.ensures.up.1.1 (c.look-2.ensures.rest, c.look-2.ensures.consumer) (one-ring _ _ c.look-2.ensures.ring) (c.look-2.ensures.up.1.1 ∙ c.look.ensures.up.1.1) c.turn-turn.result c.turn-turn.ensures.ended in
    let same = gather-on i.chain.gather c.look.new.up c.look-2.new.up c.look.ensures.up.0 c.look-2.ensures.up.0 in
    rw (← c.self.view_is) (tape-has-refused _ _ (record { rows = refl; table = refl; senders = refl })
    (tape-others (posts_of i.chain) c.look-2.new.up c.look-2.new.self
    (ap (λ x. map received x.consumers) same, c.look-2.ensures.up.1.1 ∙ c.look.ensures.up.1.1, ap (λ x. x.held) same, ap (λ x. x.place) same))
    c.turn-turn.result ended
    (tape-refused i.chain.gather.producer c.look.new.up.producer c.look-2.new.up.producer i.chain.tape c.look.new.self c.turn-turn.new.self c.look-2.new.self
    (c.look.ensures.rest, c.look.ensures.consumer) (one-ring _ _ c.look.ensures.ring) c.look.ensures.up.1.1 (c.look-2.ensures.rest, c.look-2.ensures.consumer) (one-ring _ _ c.look-2.ensures.ring) (c.look-2.ensures.up.1.1 ∙ c.look.ensures.up.1.1) c.turn-turn.result c.turn-turn.ensures.event))
