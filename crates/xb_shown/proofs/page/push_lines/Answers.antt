use Rattle.std.proofs.Common.{append_assoc, codes, string_bytes}
use Rattle.xb_svg.specs.Escaped.{escaped}
use Rattle.xb_svg.proofs.Pushed.{both, last}
use Rattle.xb_shown.specs.Sections.{lines_text, told_text}
use Rattle.xb_shown.proofs.page.push_lines.Goals as goal

pub returns : goal.returns
returns c =
    let o = string_bytes c.args.out.now in
    let lines = both o _ _ _ _ c.in_ok-push_str.ensures.bytes c.in_ok-push_escaped.ensures in
    last c.push_told.result o _ _ _ _ (lines_text c.args.lines.now c.args.told.now) lines c.push_told.ensures
    (append_assoc (codes "<pre>") (escaped c.args.lines.now) (told_text c.args.told.now))
