use Rattle.std.proofs.Common.{append_assoc, codes, string_bytes}
use Rattle.xb_report.specs.Pages.{list_text}
use Rattle.xb_report.proofs.Pushed.{both, last, str}
use Rattle.xb_report.proofs.page.push_list.Goals as goal

pub returns : goal.returns
returns c =
    let o = string_bytes c.args.out.now in
    let refused = both o _ _ _ _ c.in_ok-push_str.ensures.bytes c.in_ok-push_links.ensures in
    let others = both o _ _ _ _ refused c.in_ok-push_links-2.ensures in
    let end = str c.push_str-2.result _ _ (codes "</nav>\n") c.push_str-2.ensures.bytes in
    last c.push_str-2.result o _ _ _ _ (list_text c.args.refused.now c.args.others.now) others end (simp append_assoc)
