use Rattle.std.proofs.Common.{append_assoc, codes, string_bytes}
use Rattle.xb_report.specs.ReportTexts.{heading_text}
use Rattle.xb_report.proofs.Pushed.{both, last, str}
use Rattle.xb_report.proofs.attempt.push_heading.Goals as goal

pub returns : goal.returns
returns c =
    let o = string_bytes c.args.out.now in
    let line = both o _ _ _ _ c.in_ok-push_str.ensures.bytes c.in_ok-push_line.ensures in
    let number = both o _ _ _ _ line c.in_ok-write.ensures.bytes in
    let front = both o _ _ _ _ number c.in_ok-push_front.ensures in
    let colon = both o _ _ _ _ front c.in_ok-push_str-2.ensures.bytes in
    let outcome = both o _ _ _ _ colon c.in_ok-push_outcome.ensures in
    let end = str c.push_str-3.result _ _ (codes "\n") c.push_str-3.ensures.bytes in
    last c.push_str-3.result o _ _ _ _
    (heading_text c.args.line c.args.number c.args.runs.now c.args.outcome.now) outcome end (simp append_assoc)
