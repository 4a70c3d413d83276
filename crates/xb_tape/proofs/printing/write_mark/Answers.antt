use Rattle.xb_tape.proofs.PageFormats.{styled}
use Rattle.xb_tape.proofs.printing.write_mark.Goals as goal

pub returns-in-Trunk : goal.returns-in-Trunk
returns-in-Trunk c =
    rw (c.in-Trunk.is, ← c.get-number.ensures.value, ← styled c.get-number.result) (rw c.laid_out.ensures at c.write.ensures.bytes)
