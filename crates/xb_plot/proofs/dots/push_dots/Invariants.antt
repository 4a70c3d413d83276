use Rattle.std.proofs.Common.{◌≡◌, ◌++◌, drop, length, string_bytes}
use Rattle.xb_plot.specs.Dots.{dots_from, dots_text}
use Rattle.xb_plot.proofs.dots.push_dots.Given as goal

abbrev pub invariant-loop-index : goal.invariant-loop-index
invariant-loop-index l =
    string_bytes l.out ++ dots_from l.panel (length l.turns) l.index (drop l.index l.turns)
    ≡ string_bytes l.fn.out ++ dots_text l.panel l.turns
