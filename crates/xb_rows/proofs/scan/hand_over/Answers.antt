use Rattle.xb_rows.proofs.PlainSteps.{handed}
use Rattle.xb_rows.proofs.scan.hand_over.Goals as goal

pub returns : goal.returns
returns c = λ fields rest begins.
    handed c.args.taken rest c.after-scan.result c.next_row-given.result c.next_row-given.new.self
    (c.after-scan.ensures fields rest begins) c.next_row-given.ensures
