use Rattle.std.proofs.Common.{refl, sym, ap, ◌∙◌}
use Rattle.xb_station.proofs.Stations.{ends_next, items_none, keeps_sent_end, keeps_sent_item, lawful}
use Rattle.xb_flow.proofs.Sames.{same_producer}
use Rattle.xb_station.proofs.Sames.{station_ends}
use Rattle.xb_station.proofs.station.Station.send.Goals as goal

pub invariant_of-self-in-Some : goal.invariant_of-self-in-Some
invariant_of-self-in-Some g c =
    let r = c.in-Some.ensures in
    rw (c.push_reserved.ensures.sent.0, c.is_full.ensures.looked.1) (keeps_sent_item _ _ _ _ _ _ _ _ c.self.invariant c.in-Some.first c.pop.new.self r.items r.capacity)

pub invariant_of-self-in-None : goal.invariant_of-self-in-None
invariant_of-self-in-None g c =
    let r = c.in-None.ensures in
    let n = items_none c.self.inside.pending r.cases.0 in
    let ending = ends_next _ _ _ _ _ _ _ _ c.self.invariant n (λ none. c.requires (sym (ap (λ v. v.pending) c.self.view_is) ∙ none)) in
    rw (c.push_reserved-in-None.ensures.sent.0, c.is_full.ensures.looked.1) (keeps_sent_end _ _ _ _ _ _ _ _ c.self.invariant c.pop.new.self ending n (items_none c.pop.new.self r.cases.1) r.capacity)

pub returns-in-Some-clause-lawful : goal.returns-in-Some-clause-lawful
returns-in-Some-clause-lawful g c = lawful _ _ _ _ _ _ _ _ (invariant_of-self-in-Some g c)

pub returns-in-Some-clause-ends : goal.returns-in-Some-clause-ends
returns-in-Some-clause-ends g c = station_ends _ c.args.self.now c.self.view_is c.self.inside.consumer c.push_reserved.new.self c.self.inside.stage refl ((refl, refl, refl, refl), refl) (same_producer c.self.inside.producer c.is_full.new.self c.push_reserved.new.self c.is_full.ensures.looked.0 c.push_reserved.ensures.ring)

pub returns-in-None-clause-ends : goal.returns-in-None-clause-ends
returns-in-None-clause-ends g c = station_ends _ c.args.self.now c.self.view_is c.self.inside.consumer c.push_reserved-in-None.new.self c.self.inside.stage refl ((refl, refl, refl, refl), refl) (same_producer c.self.inside.producer c.is_full.new.self c.push_reserved-in-None.new.self c.is_full.ensures.looked.0 c.push_reserved-in-None.ensures.ring)

pub returns-then-is_full-clause-ends : goal.returns-then-is_full-clause-ends
returns-then-is_full-clause-ends g c = station_ends _ c.args.self.now c.self.view_is c.self.inside.consumer c.is_full.new.self c.self.inside.stage refl ((refl, refl, refl, refl), refl) c.is_full.ensures.looked.0
