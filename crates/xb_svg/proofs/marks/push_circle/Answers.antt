use Rattle.std.proofs.Common.{append_assoc, string_bytes}
use Rattle.xb_svg.specs.Elements.{circle_text}
use Rattle.xb_svg.proofs.Pushed.{as_defined}
use Rattle.xb_svg.proofs.marks.push_circle.Goals as goal

pub returns : goal.returns
returns c =
    as_defined c.write.result (string_bytes c.args.out.now) _ _ (circle_text c.args.x c.args.y c.args.radius c.args.ink)
    c.write.ensures.bytes (simp (c.ink_text-fill.ensures, append_assoc))
