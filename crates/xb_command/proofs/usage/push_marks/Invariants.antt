use Rattle.std.proofs.Common.{◌≡◌, ◌++◌, drop}
use Rattle.xb_command.specs.Usage.{marks_by}
use Rattle.xb_command.proofs.usage.push_marks.Given as goal

abbrev pub invariant-loop-word : goal.invariant-loop-word
invariant-loop-word l =
    l.out.items ++ marks_by (drop l.word-index l.words) ≡ l.fn.out.items ++ marks_by l.fn.words
