use Rattle.std.proofs.Common.{append_assoc, codes, string_bytes}
use Rattle.xb_heard.specs.Attempts.{attempt_in}
use Rattle.xb_report.specs.Rows.{end_row}
use Rattle.xb_report.proofs.Pushed.{both, last, str}
use Rattle.xb_report.proofs.html_attempt.push_end.Goals as goal

pub returns : goal.returns
returns c =
    let o = string_bytes c.args.out.now in
    let pulses = both o _ _ _ _ c.in_ok-push_str.ensures.bytes c.in_ok-push_unfinished.ensures in
    let timeout = both o _ _ _ _ pulses c.in_ok-push_timeout.ensures in
    let release = both o _ _ _ _ timeout c.in_ok-push_release.ensures in
    let end = str c.push_str-2.result _ _ (codes "</td></tr>\n") c.push_str-2.ensures.bytes in
    last c.push_str-2.result o _ _ _ _
    (end_row (attempt_in c.args.attempt.now)) release end (simp append_assoc)
