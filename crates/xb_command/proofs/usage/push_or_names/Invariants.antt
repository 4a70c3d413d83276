use Rattle.std.proofs.Common.{◌≡◌, ◌++◌, drop}
use Rattle.xb_command.specs.Usage.{or_names}
use Rattle.xb_command.proofs.usage.push_or_names.Given as goal

abbrev pub invariant-loop-name : goal.invariant-loop-name
invariant-loop-name l =
    l.out.items ++ or_names (drop l.name-index l.names) ≡ l.fn.out.items ++ or_names l.fn.names
