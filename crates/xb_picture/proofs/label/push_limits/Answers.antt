use Rattle.std.proofs.Common.{append_assoc}
use Rattle.xb_svg.proofs.Pushed.{last}
use Rattle.xb_picture.specs.Labels.{limits_words}
use Rattle.xb_picture.proofs.label.push_limits.Goals as goal

pub returns : goal.returns
returns c =
    last c.write-2.result _ _ _ _ _ (limits_words c.args.limits) c.in_ok-write.ensures.bytes
    c.write-2.ensures.bytes (simp append_assoc)
