use Rattle.std.proofs.Common.{◌++◌, ◌∙◌, ap, sym}
use Rattle.rtrb.specs.Ring.{known_items}
use Rattle.xb_run.proofs.Settled.{whole}
use Rattle.xb_run.proofs.senders.settle.Goals as goal

pub returns : goal.returns
returns g c ended sends =
    let look = c.look_at_both.ensures in
    let known = known_items c.look_at_both.new.consumer in
    whole _ known _ (ap (λ xs. xs ++ known) (sym look.consumer.1) ∙ look.ring.fifo ∙ look.producer.1) ended sends
