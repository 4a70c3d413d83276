use Rattle.std.proofs.Common.{append_assoc, string_bytes}
use Rattle.xb_picture.specs.Labels.{left_out_text}
use Rattle.xb_svg.proofs.Pushed.{as_defined}
use Rattle.xb_picture.proofs.label.push_others.Goals as goal

pub returns : goal.returns
returns c =
    as_defined c.write.result (string_bytes c.args.out.now) _ _ (left_out_text c.args.before c.args.after)
    c.write.ensures.bytes (simp append_assoc)
