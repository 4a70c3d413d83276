use Rattle.std.proofs.Common.{append_assoc, string_bytes}
use Rattle.xb_svg.specs.Elements.{text_start}
use Rattle.xb_svg.proofs.Pushed.{last}
use Rattle.xb_svg.proofs.text.push_text_start.Goals as goal

pub returns : goal.returns
returns c =
    last c.push_look.result (string_bytes c.args.out.now) _ _ _ _ (text_start c.args.x c.args.y c.args.look)
    c.in_ok-push_place.ensures c.push_look.ensures (simp append_assoc)
