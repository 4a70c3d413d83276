use Rattle.std.proofs.Common.{◌≡◌, ◌++◌, drop, map, string_bytes}
use Rattle.xb_loop.proofs.listing.lent.Given as goal

abbrev pub invariant-loop-name : goal.invariant-loop-name
invariant-loop-name l =
    map (λ name. name.now) l.lent.items ++ map string_bytes (drop l.name-index l.names) ≡ map string_bytes l.names
