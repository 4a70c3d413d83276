use Rattle.std.proofs.Common.{append_assoc, string_bytes}
use Rattle.xb_svg.specs.Elements.{band_text}
use Rattle.xb_svg.proofs.Pushed.{as_defined}
use Rattle.xb_svg.proofs.marks.push_band.Goals as goal

pub returns : goal.returns
returns c =
    as_defined c.write.result (string_bytes c.args.out.now) _ _
    (band_text c.args.x c.args.y c.args.width c.args.height c.args.ink)
    c.write.ensures.bytes (simp (c.ink_text-fill.ensures, append_assoc))
