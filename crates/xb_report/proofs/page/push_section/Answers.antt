use Rattle.std.proofs.Common.{append_assoc, codes, map, string_bytes}
use Rattle.xb_heard.specs.Attempts.{attempt_in}
use Rattle.xb_report.specs.Pages.{section_text}
use Rattle.xb_report.proofs.Pushed.{both, last, str}
use Rattle.xb_report.proofs.page.push_section.Goals as goal

pub returns : goal.returns
returns c =
    let o = string_bytes c.args.out.now in
    let columns = both o _ _ _ _ c.in_ok-push_open.ensures c.in_ok-push_columns.ensures in
    let rows = both o _ _ _ _ columns c.in_ok-push_attempts.ensures in
    let table = both o _ _ _ _ rows c.in_ok-push_str.ensures.bytes in
    let picture = both o _ _ _ _ table c.in_ok-push_str-2.ensures.bytes in
    let end = str c.push_str-3.result _ _ (codes "</section>\n") c.push_str-3.ensures.bytes in
    last c.push_str-3.result o _ _ _ _
    (section_text c.args.limits c.args.line (map attempt_in c.args.attempts.now) c.args.picture.now)
    picture end (simp append_assoc)
