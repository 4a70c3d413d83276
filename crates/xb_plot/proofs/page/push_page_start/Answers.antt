use Rattle.std.proofs.Common.{append_assoc, codes, string_bytes}
use Rattle.xb_svg.proofs.Pushed.{both, last, str}
use Rattle.xb_plot.specs.Pages.{page_start_text}
use Rattle.xb_plot.proofs.page.push_page_start.Goals as goal

pub returns : goal.returns
returns c =
    let o = string_bytes c.args.out.now in
    let style = both o _ _ _ _ c.in_ok-push_front.ensures c.in_ok-push_style.ensures in
    let title = both o _ _ _ _ style c.in_ok-push_str.ensures.bytes in
    let words = both o _ _ _ _ title c.in_ok-push_escaped.ensures in
    let end = str c.push_str-2.result _ _ (codes "</p>\n") c.push_str-2.ensures.bytes in
    last c.push_str-2.result o _ _ _ _ (page_start_text c.args.words.now) words end (simp append_assoc)
