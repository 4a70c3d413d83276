use Rattle.std.proofs.Common.{◌<◌, subst}
use Rattle.xb_branches.proofs.Gathers.{pop_ok, pop_empty}
use Rattle.xb_branches.proofs.branches.pop_at.Goals as goal

pub returns-clause-ok : goal.returns-clause-ok
returns-clause-ok g c =
    let below = subst (λ n. c.args.place < n) c.args.consumers.now.ok.0 c.requires in
    pop_ok c.args.consumers.now.items c.args.place c.index_mut-consumer.result.now c.pop.new.self c.pop.result _ _ below c.index_mut-consumer.ensures.value c.pop.ensures.ok

pub returns-clause-empty : goal.returns-clause-empty
returns-clause-empty g c =
    let below = subst (λ n. c.args.place < n) c.args.consumers.now.ok.0 c.requires in
    pop_empty c.args.consumers.now.items c.args.place c.index_mut-consumer.result.now c.pop.new.self c.pop.result _ below c.index_mut-consumer.ensures.value c.pop.ensures.empty
