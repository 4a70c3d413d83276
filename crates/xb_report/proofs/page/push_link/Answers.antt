use Rattle.std.proofs.Common.{append_assoc, codes, string_bytes}
use Rattle.xb_report.specs.Pages.{link_text}
use Rattle.xb_report.proofs.Pushed.{both, last, str}
use Rattle.xb_report.proofs.page.push_link.Goals as goal

pub returns : goal.returns
returns c =
    let o = string_bytes c.args.out.now in
    let place = both o _ _ _ _ c.in_ok-push_str.ensures.bytes c.in_ok-push_line.ensures in
    let opened = both o _ _ _ _ place c.in_ok-push_str-2.ensures.bytes in
    let line = both o _ _ _ _ opened c.in_ok-push_line-2.ensures in
    let end = str c.push_str-3.result _ _ (codes "</a>") c.push_str-3.ensures.bytes in
    last c.push_str-3.result o _ _ _ _ (link_text c.args.line) line end (simp append_assoc)
