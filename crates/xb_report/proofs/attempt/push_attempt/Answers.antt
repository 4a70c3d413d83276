use Rattle.std.proofs.Common.{append_assoc, string_bytes}
use Rattle.xb_heard.specs.Attempts.{attempt_in}
use Rattle.xb_report.specs.ReportTexts.{attempt_text}
use Rattle.xb_report.proofs.Pushed.{both, last}
use Rattle.xb_report.proofs.attempt.push_attempt.Goals as goal

pub returns : goal.returns
returns c =
    let o = string_bytes c.args.out.now in
    let table = both o _ _ _ _ c.in_ok-push_heading.ensures c.in_ok-push_table.ensures in
    let pulses = both o _ _ _ _ table c.in_ok-push_unfinished.ensures in
    let timeout = both o _ _ _ _ pulses c.in_ok-push_timeout.ensures in
    last c.push_release.result o _ _ _ _
    (attempt_text c.args.limits c.args.line c.args.number (attempt_in c.args.attempt.now))
    timeout c.push_release.ensures (simp (c.deref.ensures.value, append_assoc))
