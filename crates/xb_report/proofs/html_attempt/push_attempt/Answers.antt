use Rattle.std.proofs.Common.{append_assoc, string_bytes}
use Rattle.xb_heard.specs.Attempts.{attempt_in}
use Rattle.xb_report.specs.Rows.{attempt_rows}
use Rattle.xb_report.proofs.Pushed.{both, last}
use Rattle.xb_report.proofs.html_attempt.push_attempt.Goals as goal

pub returns : goal.returns
returns c =
    let o = string_bytes c.args.out.now in
    let digits = both o _ _ _ _ c.in_ok-push_first.ensures c.in_ok-push_digits.ensures in
    last c.push_end.result o _ _ _ _
    (attempt_rows c.args.limits c.args.line c.args.number (attempt_in c.args.attempt.now))
    digits c.push_end.ensures (simp (c.deref.ensures.value, append_assoc))
