use Rattle.std.proofs.Common.{[], ◌++◌, ◌∙◌, subst}
use Rattle.xb_serial.specs.Taken.{HasHeard}
use Rattle.xb_serial.proofs.serial.dialled_of_rows.Goals as goal

pub returns-clause-dialled : goal.returns-clause-dialled
returns-clause-dialled c =
    let t = c.args.table.now in
    let taken = c.in_ok-take_all.ensures t.limits t.plan [] c.in_ok-loops.ensures.taken in
    let closed = c.in_ok-take_all-2.ensures t.limits t.plan c.args.rows.now taken in
    c.into_dialled.ensures
    ∙ (subst (λ closes. HasHeard t.limits t.plan c.take_all-2.new.self (c.args.rows.now ++ closes)) (c.deref.ensures.value ∙ c.in_ok-closes.ensures) closed).registers.dialled
