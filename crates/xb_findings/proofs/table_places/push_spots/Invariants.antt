use Rattle.std.proofs.Common.{◌≡◌, drop}
use Rattle.xb_findings.specs.Places.{IsReached, found_of_spots}
use Rattle.xb_findings.specs.Tallies.{tallied, with_all}
use Rattle.xb_findings.proofs.table_places.push_spots.Given as goal

abbrev pub invariant-loop-spot : goal.invariant-loop-spot
invariant-loop-spot l = record {
  reached : IsReached l.text l.reached;
  rest :
      with_all (tallied l.tally) (found_of_spots l.text (drop l.spot-index l.spots))
      ≡ with_all (tallied l.fn.tally) (found_of_spots l.text l.spots);
}
