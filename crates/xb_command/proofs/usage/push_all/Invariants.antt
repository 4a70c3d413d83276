use Rattle.std.proofs.Common.{◌≡◌, ◌++◌, drop}
use Rattle.xb_command.specs.Usage.{joined}
use Rattle.xb_command.proofs.usage.push_all.Given as goal

abbrev pub invariant-loop-part : goal.invariant-loop-part
invariant-loop-part l =
    l.out.items ++ joined (drop l.part-index l.parts) ≡ l.fn.out.items ++ joined l.fn.parts
