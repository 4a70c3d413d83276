use Rattle.std.proofs.Common.{◌≡◌, ◌++◌, drop, string_bytes}
use Rattle.std.specs.List.{flat_map}
use Rattle.xb_bench.specs.Drawings.{turn_text}
use Rattle.xb_bench.proofs.drawing.push_turns.Given as goal

abbrev pub invariant-loop-turn : goal.invariant-loop-turn
invariant-loop-turn l =
    string_bytes l.out ++ flat_map (turn_text l.setting l.line l.scale) (drop l.turn-index l.turns)
    ≡ string_bytes l.fn.out ++ flat_map (turn_text l.setting l.line l.scale) l.turns
