use Rattle.std.proofs.Common.{◌≡◌, length}
use Rattle.xb_vcd.specs.VcdTexts.{words_of}
use Rattle.xb_loop.specs.Names.{all_added, named_in}
use Rattle.xb_loop.specs.Wires.{declared_names}
use Rattle.xb_loop.proofs.found_names.Finder.add_declared.Given as goal

abbrev pub invariant-loop-word : goal.invariant-loop-word
invariant-loop-word l =
    all_added (named_in l.self.found) (declared_names (words_of l.left))
    ≡ all_added (named_in l.initial.self.found) (declared_names (words_of l.fn.line))

abbrev pub decreases-loop-word : goal.decreases-loop-word
decreases-loop-word l = length (words_of l.left)
