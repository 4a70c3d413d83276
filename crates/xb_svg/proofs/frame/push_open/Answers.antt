use Rattle.std.proofs.Common.{append_assoc}
use Rattle.xb_svg.proofs.Pushed.{last}
use Rattle.xb_svg.specs.Elements.{open_text}
use Rattle.xb_svg.proofs.frame.push_open.Goals as goal

pub returns : goal.returns
returns c =
    last c.write-2.result _ _ _ _ _ (open_text c.args.width c.args.height) c.in_ok-write.ensures.bytes
    c.write-2.ensures.bytes (simp append_assoc)
