use Rattle.std.proofs.Common.{◌≡◌, ◌++◌, drop, length, string_bytes}
use Rattle.xb_plot.specs.Names.{every_name}
use Rattle.xb_plot.proofs.names.push_every_name.Given as goal

abbrev pub invariant-loop-index : goal.invariant-loop-index
invariant-loop-index l =
    string_bytes l.out ++ every_name (length l.turns) l.index (drop l.index l.turns)
    ≡ string_bytes l.fn.out ++ every_name (length l.turns) 0 l.turns
