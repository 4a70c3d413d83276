use Rattle.std.proofs.Common.{sym, ◌∙◌}
use Rattle.xb_run.proofs.Drained.{tapes_are}
use Rattle.xb_run.proofs.Unserved.{not_all}
use Rattle.xb_run.proofs.finish.finish.Goals as goal

pub returns-in-Served-clause-tapes : goal.returns-in-Served-clause-tapes
returns-in-Served-clause-tapes c plan limits routes rows served =
    let all = c.unserved_post.ensures.none c.in_default.is in
    tapes_are plan limits routes rows c.args.done all c.in_default-fault.is c.settle_rings.ensures.settled served c.in-Served.tapes
    (sym c.settle_rings.ensures.taped ∙ c.in-Served.is)

pub returns-in-Some-clause-rows_first : goal.returns-in-Some-clause-rows_first
returns-in-Some-clause-rows_first c fault all met = absurd (not_all c.args.done c.in-Some.post c.in-Some.ensures.some all)
