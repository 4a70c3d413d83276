use Rattle.std.proofs.Common.{◌≡◌, ◌++◌, map, drop}
use Rattle.std.specs.Prelude.{string_bytes}
use Rattle.xb_keys.specs.Spots.{spots_of_parts, within}
use Rattle.xb_keys.proofs.key_places.push_parts.Given as goal

abbrev pub invariant-loop-part : goal.invariant-loop-part
invariant-loop-part l = record {
  spots :
      l.spots.items ++ spots_of_parts l.at l.here l.value (map string_bytes (drop l.part-index l.parts))
      ≡ l.fn.spots.items ++ spots_of_parts l.at l.fn.section l.value (map string_bytes l.parts);
  section :
      within l.here (map string_bytes (drop l.part-index l.parts)) ≡ within l.fn.section (map string_bytes l.parts);
}
