use Rattle.std.proofs.Common.{refl, ◌+◌, ◌-◌, ◌^◌, min, map, sym, ap, subst, ◌∙◌}
use Rattle.std.proofs.lemmas.List.{length-map}
use Rattle.rtrb.specs.Ring.{received, sent}
use Rattle.xb_branches.specs.GatherSteps.{Awaits}
use Rattle.xb_branches.specs.Gathers.{SameGather}
use Rattle.xb_branches.proofs.Gathers.{gathers_wanted, counts_wanted, gather_law}
use Rattle.xb_branches.proofs.gather.Gather.take.Goals as goal

pub invariant_of-self-2 : goal.invariant_of-self-2
invariant_of-self-2 g c =
    let i = c.self.inside in
    let ins = map received i.consumers.items in
    let law = c.self.invariant.0 in
    let awaits : Awaits i.held = subst (λ v. Awaits v.held) (sym c.self.view_is) c.requires in
    let n = c.len-inputs.ensures ∙ (i.consumers.ok.0 ∙ sym (length-map i.consumers.items received)) in
    let count = c.saturating_add-self-inside.ensures ∙ ap (λ k. min (i.taken + k) (2 ^ 64 - 1)) c.count.ensures in
    rw (c.in-Ok.ensures.ok, c.held_after-held.ensures, n) (
      gathers_wanted g.T.Ending.ending ins (sent i.producer) i.held i.place law awaits c.in-Ok.taken,
      count ∙ counts_wanted g.T.Ending.ending ins (sent i.producer) i.held i.place law awaits c.in-Ok.taken i.taken c.self.invariant.1,
    )

pub returns-clause-lawful : goal.returns-clause-lawful
returns-clause-lawful g c = gather_law g.T.Ending.ending _ (sent c.self.inside.producer) _ _ (invariant_of-self-2 g c).0

pub returns-in-Err-clause-lawful : goal.returns-in-Err-clause-lawful
returns-in-Err-clause-lawful g c =
    let i = c.self.inside in
    gather_law g.T.Ending.ending _ (sent i.producer) i.held i.place (rw c.in-Err.ensures.empty c.self.invariant.0)

pub returns-clause-ends : goal.returns-clause-ends
returns-clause-ends g c =
    subst (λ v. SameGather v (record { consumers = c.pop_at.new.consumers.items; producer = c.self.inside.producer; held = c.held_after-held.result.0; place = c.held_after-held.result.1 })) c.self.view_is (
      sym c.pop_at.new.consumers.ok.0 ∙ (c.pop_at.ensures.len ∙ c.self.inside.consumers.ok.0),
      (λ j d h. c.pop_at.ensures.same j d (rw c.self.inside.consumers.ok.0 h)),
      ((refl, refl, refl, refl), refl),
    )
