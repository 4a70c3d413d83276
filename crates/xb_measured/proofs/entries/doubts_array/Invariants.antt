use Rattle.std.proofs.Common.{◌≡◌, ◌++◌, drop, map}
use Rattle.serde_json.specs.View.{view}
use Rattle.xb_measured.specs.Entries.{doubt_object}
use Rattle.xb_measured.proofs.entries.doubts_array.Given as goal

abbrev pub invariant-loop-doubt : goal.invariant-loop-doubt
invariant-loop-doubt l =
    map view l.values.items ++ map doubt_object (drop l.doubt-index l.doubts) ≡ map doubt_object l.doubts
