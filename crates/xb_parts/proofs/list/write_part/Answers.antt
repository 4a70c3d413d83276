use Rattle.std.proofs.lemmas.Result.{on_ok_weaker}
use Rattle.xb_parts.proofs.ListFormats.{part_line}
use Rattle.xb_parts.proofs.list.write_part.Goals as goal

pub returns : goal.returns
returns c =
    on_ok_weaker c.write.result (λ e. part_line _ _ _ c.args.part c.in_ok-write_name.ensures e)
    (rw c.saturating_sub-last.ensures at c.write.ensures.bytes)
