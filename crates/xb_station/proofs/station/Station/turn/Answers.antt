use Rattle.std.proofs.Common.{refl, subst}
use Rattle.rtrb.specs.Ring.{received, sent}
use Rattle.xb_station.specs.Stations.{StationLaw}
use Rattle.xb_station.proofs.Stations.{lawful}
use Rattle.xb_station.proofs.station.Station.turn.Goals as goal

pub returns-in-Over-clause-ends : goal.returns-in-Over-clause-ends
returns-in-Over-clause-ends g c = (refl, ((refl, refl, refl, refl), refl), ((refl, refl, refl, refl), refl))

pub returns-in-Open-clause-ends : goal.returns-in-Open-clause-ends
returns-in-Open-clause-ends g c = c.take.ensures.ends

pub returns-in-Ending-clause-ends : goal.returns-in-Ending-clause-ends
returns-in-Ending-clause-ends g c = c.send-in-Ending.ensures.ends

pub returns-in-Over-clause-lawful : goal.returns-in-Over-clause-lawful
returns-in-Over-clause-lawful g c =
    subst (λ v. StationLaw g.S.In.OnLine.line_of (g.S.LineStage.machine v.stage) (received v.consumer) (sent v.producer) v.pending) c.self.view_is (lawful _ _ _ _ _ _ _ _ c.self.invariant)
