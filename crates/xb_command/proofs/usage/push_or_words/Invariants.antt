use Rattle.std.proofs.Common.{◌≡◌, ◌++◌, drop}
use Rattle.xb_command.specs.Usage.{or_words}
use Rattle.xb_command.proofs.usage.push_or_words.Given as goal

abbrev pub invariant-loop-word : goal.invariant-loop-word
invariant-loop-word l =
    l.out.items ++ or_words (drop l.word-index l.words) ≡ l.fn.out.items ++ or_words l.fn.words
