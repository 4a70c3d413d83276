use Rattle.std.proofs.Common.{◌≤◌, arith, rules}
use Rattle.std.specs.Vec.{vec_capacity}
use Rattle.xb_model.specs.declared.stage.TheConstants.{OUTPUT_ROOM}
use Rattle.xb_station.proofs.Stations.{keeps_fresh, lawful}
use Rattle.xb_station.proofs.station.Station.new.Goals as goal

pub invariant_of-result : goal.invariant_of-result
invariant_of-result g c =
    let room : OUTPUT_ROOM ≤ vec_capacity c.in_ok-pending.pending = omega (arith, c.in_ok-pending.ensures.exact) in
    rw (c.requires.received, c.requires.sent)
    (keeps_fresh _ _ _ _ c.in_ok-states.ensures.lines (λ k d h. let made = c.in_ok-states.ensures.made k d h in search rules) c.in_ok-pending.ensures.items room)

pub returns-clause-lawful : goal.returns-clause-lawful
returns-clause-lawful g c = lawful _ _ _ _ _ _ _ _ (invariant_of-result g c)
