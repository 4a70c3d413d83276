use Rattle.xb_station.specs.Stations.{SameStation}
use Rattle.xb_station.proofs.station.Station.serve.Given as goal

abbrev pub invariant-loop : goal.invariant-loop
invariant-loop g l =
    (goal.iterator-loop g).can_next l.iterator' × (goal.iterator-loop g).is_finite l.iterator' × SameStation l.initial.self l.self
