use Rattle.std.proofs.Common.{subst, refl, ap, sym, ◌∙◌, map}
use Rattle.rtrb.specs.Ring.{received, sent}
use Rattle.xb_branches.specs.Gathers.{GatherLaw}
use Rattle.xb_branches.specs.GatherSteps.{GatherAgrees}
use Rattle.xb_flow.specs.declared.turn.Turn.TheVariants.{Ended}
use Rattle.xb_branches.proofs.Gathers.{gather_ended, gather_law}
use Rattle.xb_branches.proofs.gather.Gather.turn.Goals as goal

pub returns-in-Over-clause-ended : goal.returns-in-Over-clause-ended
returns-in-Over-clause-ended g c =
    let law = subst (λ v. GatherAgrees g.T.Ending.ending (map received v.consumers) (sent v.producer) v.held v.place) c.self.view_is c.self.invariant.0 in
    let over = sym (ap (λ v. v.held) c.self.view_is) ∙ c.in-Over.is in
    gather_ended g.T.Ending.ending c.args.self.now c.args.self.now Ended law (refl, over)

pub returns-in-Over-clause-lawful : goal.returns-in-Over-clause-lawful
returns-in-Over-clause-lawful g c =
    let i = c.self.inside in
    subst (GatherLaw g.T.Ending.ending) c.self.view_is (gather_law g.T.Ending.ending (map received i.consumers.items) (sent i.producer) i.held i.place c.self.invariant.0)

pub returns-in-Wants-clause-ended : goal.returns-in-Wants-clause-ended
returns-in-Wants-clause-ended g c =
    gather_ended _ _ _ _ (subst (λ v. GatherAgrees g.T.Ending.ending (map received v.consumers) (sent v.producer) v.held v.place) c.self.view_is c.self.invariant.0) c.take.ensures.event

pub returns-in-One-clause-ended : goal.returns-in-One-clause-ended
returns-in-One-clause-ended g c =
    gather_ended _ _ _ _ (subst (λ v. GatherAgrees g.T.Ending.ending (map received v.consumers) (sent v.producer) v.held v.place) c.self.view_is c.self.invariant.0) c.send.ensures.event
