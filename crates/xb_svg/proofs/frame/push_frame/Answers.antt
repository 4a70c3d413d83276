use Rattle.std.proofs.Common.{append_assoc, string_bytes}
use Rattle.xb_svg.specs.Elements.{frame_text}
use Rattle.xb_svg.proofs.Pushed.{last}
use Rattle.xb_svg.proofs.frame.push_frame.Goals as goal

pub returns : goal.returns
returns c =
    last c.push_band.result (string_bytes c.args.out.now) _ _ _ _ (frame_text c.args.width c.args.height)
    c.in_ok-push_open.ensures c.push_band.ensures (simp append_assoc)
