use Rattle.std.proofs.Common.{refl, ◌≡◌, [], ◌∷◌, ◌++◌, ap, ◌∙◌}
use Rattle.rtrb.specs.Ring.{received, sent}
use Rattle.xb_flow.specs.Flows.{has_end}
use Rattle.xb_flow.specs.declared.flow.Flow.TheVariants.{Item, End}
use Rattle.xb_station.proofs.Stations.{opens, keeps_item, keeps_end, lawful}
use Rattle.xb_station.proofs.Sames.{station_ends}
use Rattle.xb_station.proofs.station.Station.take.Goals as goal

pub invariant_of-self : goal.invariant_of-self
invariant_of-self g c =
    let i = c.self.inside in
    let e : received c.pop.new.self ≡ received i.consumer ++ Item c.in-Ok-Item.item ∷ [] = (rw c.in-Ok-Item.field-0-is at c.in-Ok-Item.ensures.ok).0 in
    let t = c.take_item.ensures in
    let count = c.saturating_add-self-inside.ensures in
    let n = opens _ _ _ _ _ _ _ _ c.self.invariant (ap (λ v. v.pending) c.self.view_is ∙ c.requires.wanted) (ap (λ v. has_end (sent v.producer)) c.self.view_is ∙ c.requires.open) in
    rw (e, count) (keeps_item g.S.In.OnLine.line_of (g.S.LineStage.machine i.stage) i.states i.pending i.phase i.taken (received i.consumer) (sent i.producer) c.self.invariant c.in-Ok-Item.item n.0 n.1 t.lines t.below c.take_item.new.states t.state c.take_item.new.out t.out t.room)

pub invariant_of-self-in-Ok-End : goal.invariant_of-self-in-Ok-End
invariant_of-self-in-Ok-End g c =
    let e : received c.pop.new.self ≡ received c.self.inside.consumer ++ End ∷ [] = (rw c.in-Ok-End.field-0-is at c.in-Ok-End.ensures.ok).0 in
    let n = opens _ _ _ _ _ _ _ _ c.self.invariant (ap (λ v. v.pending) c.self.view_is ∙ c.requires.wanted) (ap (λ v. has_end (sent v.producer)) c.self.view_is ∙ c.requires.open) in
    rw e (keeps_end _ _ _ _ _ _ _ _ c.self.invariant n.0 n.1)

pub returns-in-Ok-Item-clause-lawful : goal.returns-in-Ok-Item-clause-lawful
returns-in-Ok-Item-clause-lawful g c = lawful _ _ _ _ _ _ _ _ (invariant_of-self g c)

pub returns-in-Ok-End-clause-lawful : goal.returns-in-Ok-End-clause-lawful
returns-in-Ok-End-clause-lawful g c = lawful _ _ _ _ _ _ _ _ (invariant_of-self-in-Ok-End g c)

pub returns-in-Ok-Item-clause-ends : goal.returns-in-Ok-Item-clause-ends
returns-in-Ok-Item-clause-ends g c = station_ends _ c.args.self.now c.self.view_is c.pop.new.self c.self.inside.producer c.self.inside.stage refl c.pop.ensures.ring ((refl, refl, refl, refl), refl)

pub returns-in-Ok-End-clause-ends : goal.returns-in-Ok-End-clause-ends
returns-in-Ok-End-clause-ends g c = station_ends _ c.args.self.now c.self.view_is c.pop.new.self c.self.inside.producer c.self.inside.stage refl c.pop.ensures.ring ((refl, refl, refl, refl), refl)

pub returns-in-Err-clause-ends : goal.returns-in-Err-clause-ends
returns-in-Err-clause-ends g c = station_ends _ c.args.self.now c.self.view_is c.pop.new.self c.self.inside.producer c.self.inside.stage refl c.pop.ensures.ring ((refl, refl, refl, refl), refl)
