use Rattle.std.proofs.Common.{◌≡◌, ◌++◌, ◌+◌, drop, map, string_bytes}
use Rattle.xb_heard.specs.Attempts.{attempt_in}
use Rattle.xb_report.specs.ReportTexts.{attempts_from}
use Rattle.xb_report.proofs.report.push_attempts.Given as goal

abbrev pub invariant-loop-index : goal.invariant-loop-index
invariant-loop-index l =
    string_bytes l.out ++ attempts_from l.limits l.line (l.index + 1) (map attempt_in (drop l.index l.attempts))
    ≡ string_bytes l.fn.out ++ attempts_from l.limits l.line 1 (map attempt_in l.attempts)
