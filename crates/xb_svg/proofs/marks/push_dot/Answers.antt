use Rattle.std.proofs.Common.{append_assoc, codes, string_bytes}
use Rattle.xb_svg.specs.Elements.{dot_text}
use Rattle.xb_svg.proofs.Pushed.{both, last, str}
use Rattle.xb_svg.proofs.marks.push_dot.Goals as goal

pub returns : goal.returns
returns c =
    let o = string_bytes c.args.out.now in
    let titled = both o _ _ _ _ c.in_ok-push_circle.ensures c.in_ok-push_str.ensures.bytes in
    let words = both o _ _ _ _ titled c.in_ok-push_escaped.ensures in
    let end = str c.push_str-2.result _ _ (codes "</title></circle>\n") c.push_str-2.ensures.bytes in
    last c.push_str-2.result o _ _ _ _ (dot_text c.args.x c.args.y c.args.radius c.args.ink c.args.title.now) words end
    (simp append_assoc)
