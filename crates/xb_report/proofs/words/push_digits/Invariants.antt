use Rattle.std.proofs.Common.{◌≡◌, ◌++◌, drop, string_bytes}
use Rattle.xb_report.specs.Words.{digits_text}
use Rattle.xb_report.proofs.words.push_digits.Given as goal

abbrev pub invariant-loop-digit : goal.invariant-loop-digit
invariant-loop-digit l =
    string_bytes l.out ++ digits_text (drop l.digit-index l.digits) ≡ string_bytes l.fn.out ++ digits_text l.digits
