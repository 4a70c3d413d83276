use Rattle.std.proofs.Common.{◌≡◌, ◌++◌, drop, map, string_bytes}
use Rattle.xb_heard.specs.Digits.{digit_in}
use Rattle.xb_report.specs.Rows.{digit_rows}
use Rattle.xb_report.proofs.html_digit.push_digits.Given as goal

abbrev pub invariant-loop-index : goal.invariant-loop-index
invariant-loop-index l =
    string_bytes l.out ++ digit_rows l.limits l.outcome l.index (map digit_in (drop l.index l.digits))
    ≡ string_bytes l.fn.out ++ digit_rows l.limits l.outcome 0 (map digit_in l.digits)
