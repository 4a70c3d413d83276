use Rattle.std.proofs.Common.{◌≡◌, ◌++◌, drop, string_bytes}
use Rattle.std.specs.List.{flat_map}
use Rattle.xb_measured.specs.Verdicts.{spaced_word}
use Rattle.xb_measured.proofs.verdicts.push_words.Given as goal

abbrev pub invariant-loop-limit : goal.invariant-loop-limit
invariant-loop-limit l =
    string_bytes l.text ++ flat_map spaced_word (drop l.limit-index l.limits)
    ≡ string_bytes l.fn.text ++ flat_map spaced_word l.limits
