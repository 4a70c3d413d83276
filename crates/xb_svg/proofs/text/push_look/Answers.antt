use Rattle.std.proofs.Common.{append_assoc, string_bytes}
use Rattle.xb_svg.specs.Elements.{look_text}
use Rattle.xb_svg.proofs.Pushed.{as_defined}
use Rattle.xb_svg.proofs.text.push_look.Goals as goal

pub returns : goal.returns
returns c =
    as_defined c.write.result (string_bytes c.args.out.now) _ _ (look_text c.args.look) c.write.ensures.bytes
    (simp (c.ink_text-fill.ensures, c.anchor_text-anchor.ensures, c.weight_text-weight.ensures, append_assoc))
