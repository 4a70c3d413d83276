use Rattle.xb_parts.proofs.EvenRanges.{asked_of_plan, fault_of_plan, fit_of_plan, wanted_within}
use Rattle.xb_parts.proofs.planning.ranges_within.Goals as goal

pub returns-clause-fit : goal.returns-clause-fit
returns-clause-fit c table room =
    let plan = c.plan_ranges.ensures in
    let wanted = c.in_ok-wanted.wanted in
    let within = wanted_within c.args.parts c.args.loads.now c.args.most wanted c.in_ok-wanted.ensures.wanted in
    fit_of_plan table c.args.loads.now c.args.most wanted (λ v. v.items) c.plan_ranges.result room within plan.fit

pub returns-clause-asked : goal.returns-clause-asked
returns-clause-asked c table room =
    let plan = c.plan_ranges.ensures in
    asked_of_plan table c.args.loads.now c.args.most c.in_ok-wanted.wanted (λ v. v.items) c.plan_ranges.result room
    c.args.parts c.in_ok-wanted.ensures.wanted plan.lines plan.cover plan.fit plan.full

pub returns-clause-fault : goal.returns-clause-fault
returns-clause-fault c =
    let plan = c.plan_ranges.ensures in
    fault_of_plan c.args.loads.now c.args.most c.in_ok-wanted.wanted c.plan_ranges.result c.args.parts
    c.in_ok-wanted.ensures.wanted plan.lines plan.too_much
