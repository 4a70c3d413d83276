use Rattle.std.proofs.Common.{◌≡◌, ◌++◌, drop, string_bytes}
use Rattle.xb_shown.specs.Headings.{number_words}
use Rattle.xb_shown.proofs.heading.number_words.Given as goal

abbrev pub invariant-loop-key : goal.invariant-loop-key
invariant-loop-key l = string_bytes l.out ++ number_words (drop l.key-index l.keys) ≡ number_words l.keys
