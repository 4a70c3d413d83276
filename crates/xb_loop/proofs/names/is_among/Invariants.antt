use Rattle.std.proofs.Common.{◌≡◌, drop, map, string_bytes}
use Rattle.xb_loop.specs.Names.{is_among}
use Rattle.xb_loop.proofs.names.is_among.Given as goal

abbrev pub invariant-loop-other : goal.invariant-loop-other
invariant-loop-other l =
    is_among l.name (map string_bytes (drop l.other-index l.names)) ≡ is_among l.name (map string_bytes l.names)
