use Rattle.std.proofs.Common.{◌≡◌, ◌+◌, ◌-◌}
use Rattle.xb_loop.specs.Names.{all_added, named_in}
use Rattle.xb_loop.specs.Wires.{numbers_from}
use Rattle.xb_loop.proofs.found_names.Finder.add_numbers.Given as goal

abbrev pub invariant-loop-number : goal.invariant-loop-number
invariant-loop-number l =
    all_added (named_in l.self.found) (numbers_from l.number-counter (l.first + l.count - l.number-counter))
    ≡ all_added (named_in l.initial.self.found) (numbers_from l.first l.count)
