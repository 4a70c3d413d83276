use Rattle.std.proofs.Common.{append_assoc, codes, string_bytes}
use Rattle.xb_svg.proofs.Pushed.{both, last, str}
use Rattle.xb_shown.specs.Sections.{told_text}
use Rattle.xb_shown.proofs.page.push_told.Goals as goal

pub returns : goal.returns
returns c =
    let o = string_bytes c.args.out.now in
    let told = both o _ _ _ _ c.in_ok-push_str.ensures.bytes c.in_ok-push_escaped.ensures in
    let end = str c.push_str-2.result _ _ (codes "</pre>\n</section>\n") c.push_str-2.ensures.bytes in
    last c.push_str-2.result o _ _ _ _ (told_text c.args.told.now) told end (simp append_assoc)
