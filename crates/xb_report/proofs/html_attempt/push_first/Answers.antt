use Rattle.std.proofs.Common.{append_assoc, codes, string_bytes}
use Rattle.xb_report.specs.Rows.{heading_row}
use Rattle.xb_report.specs.ReportTexts.{heading_text}
use Rattle.xb_report.proofs.Pushed.{both, last, str}
use Rattle.xb_report.proofs.html_attempt.push_first.Goals as goal

pub returns : goal.returns
returns c =
    let o = string_bytes c.args.out.now in
    let words = both o _ _ _ _ c.in_ok-push_str.ensures.bytes c.in_ok-push_heading.ensures in
    let end = str c.push_str-2.result _ _ (codes "</th></tr>\n") c.push_str-2.ensures.bytes in
    last c.push_str-2.result o _ _ _ _
    (heading_row c.args.line c.args.number c.args.runs.now c.args.outcome.now) words end
    (append_assoc (codes "<tr><th colspan=\"8\">")
    (heading_text c.args.line c.args.number c.args.runs.now c.args.outcome.now) (codes "</th></tr>\n"))
