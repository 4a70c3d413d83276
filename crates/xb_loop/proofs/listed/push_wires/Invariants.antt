use Rattle.std.proofs.Common.{◌≡◌, ◌++◌, drop, map, option_map, string_bytes}
use Rattle.xb_loop.specs.WireLines.{lines_from}
use Rattle.xb_loop.proofs.listed.push_wires.Given as goal

abbrev pub invariant-loop-wire : goal.invariant-loop-wire
invariant-loop-wire l =
    string_bytes l.text
    ++ lines_from (option_map (λ all. all.items) l.edges) l.wire (map (λ name. name.now) (drop l.wire l.names))
    ≡ string_bytes l.fn.text
    ++ lines_from (option_map (λ all. all.items) l.edges) 0 (map (λ name. name.now) l.names)
