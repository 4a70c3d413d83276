use Rattle.std.proofs.Common.{◌≡◌, ◌++◌, drop}
use Rattle.xb_command.specs.Usage.{help_lines}
use Rattle.xb_command.proofs.usage.push_helps.Given as goal

abbrev pub invariant-loop-word : goal.invariant-loop-word
invariant-loop-word l =
    l.out.items ++ help_lines (drop l.word-index l.words) ≡ l.fn.out.items ++ help_lines l.fn.words
