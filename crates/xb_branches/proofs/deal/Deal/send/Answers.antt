use Rattle.std.proofs.Common.{[], ◌∷◌, sym, ap, subst, eqb, ◌∙◌, inr, refl}
use Rattle.xb_branches.specs.DealSteps.{CanSend, released, left_of, next_place}
use Rattle.xb_branches.specs.Deals.{SendsAt, SameDeal, IsDealTurn}
use Rattle.xb_flow.specs.declared.turn.Turn.TheVariants.{Moved}
use Rattle.xb_branches.proofs.Deals.{deals_sent, looked_and_sent}
use Rattle.xb_branches.proofs.deal.Deal.send.Goals as goal

pub invariant_of-self-2 : goal.invariant_of-self-2
invariant_of-self-2 g c =
    let i = c.self.inside in
    let s = looked_and_sent i.producers c.is_full_at.new.producers c.push_at.new.producers i.place _ c.is_full_at.ensures.len c.is_full_at.ensures.looked c.push_at.ensures.len c.push_at.ensures.same c.push_at.ensures.sent in
    let n = c.len.ensures ∙ (c.is_full_at.ensures.len ∙ i.producers.ok.0) in
    let place = c.after-next.ensures ∙ ap (λ m. next_place m i.place) n in
    let held = ap (λ r. r.1) c.release-item.ensures ∙ (ap (λ h. left_of h (eqb c.after-next.result 0)) c.replace.ensures.value ∙ ap (λ m. left_of i.held (eqb m 0)) place) in
    let item = ap (λ r. r.0) c.release-item.ensures ∙ ap released c.replace.ensures.value in
    let can = subst (λ v. CanSend v.held) (sym c.self.view_is) c.requires in
    rw (held, place) (
      deals_sent i.consumer i.producers.items i.held i.place c.self.invariant.0 can _ (subst (λ y. SendsAt i.producers.items i.place (y ∷ []) c.push_at.new.producers.items) item s),
      c.self.invariant.1,
    )

pub returns-clause-event : goal.returns-clause-event
returns-clause-event g c =
    let s = looked_and_sent c.self.inside.producers c.is_full_at.new.producers c.push_at.new.producers c.self.inside.place _ c.is_full_at.ensures.len c.is_full_at.ensures.looked c.push_at.ensures.len c.push_at.ensures.same c.push_at.ensures.sent in
    let can = subst (λ v. CanSend v.held) (sym c.self.view_is) c.requires in
    subst (λ v. IsDealTurn v Moved (record { consumer = c.self.inside.consumer; producers = c.push_at.new.producers.items; held = c.release-item.result.1; place = c.after-next.result })) c.self.view_is (inr (c.release-item.result.0, refl, s, can))

pub returns-clause-lawful : goal.returns-clause-lawful
returns-clause-lawful g c = (invariant_of-self-2 g c).0

pub returns-clause-ends : goal.returns-clause-ends
returns-clause-ends g c =
    let s = looked_and_sent c.self.inside.producers c.is_full_at.new.producers c.push_at.new.producers c.self.inside.place _ c.is_full_at.ensures.len c.is_full_at.ensures.looked c.push_at.ensures.len c.push_at.ensures.same c.push_at.ensures.sent in
    subst (λ v. SameDeal v (record { consumer = c.self.inside.consumer; producers = c.push_at.new.producers.items; held = c.release-item.result.1; place = c.after-next.result })) c.self.view_is (((refl, refl, refl, refl), refl), s.0, λ j p h. (s.1 j p h).0)
