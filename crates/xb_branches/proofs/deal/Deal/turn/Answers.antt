use Rattle.std.proofs.Common.{subst, refl, ap, sym, ◌∙◌}
use Rattle.xb_branches.specs.Deals.{DealLaw}
use Rattle.xb_flow.specs.declared.turn.Turn.TheVariants.{Ended}
use Rattle.xb_branches.proofs.Deals.{deal_ended}
use Rattle.xb_branches.proofs.deal.Deal.turn.Goals as goal

pub returns-in-Over-clause-ended : goal.returns-in-Over-clause-ended
returns-in-Over-clause-ended g c =
    let over = sym (ap (λ v. v.held) c.self.view_is) ∙ c.in-Over.is in
    deal_ended c.args.self.now c.args.self.now Ended (subst DealLaw c.self.view_is c.self.invariant.0) (refl, over)

pub returns-in-Nothing-clause-ended : goal.returns-in-Nothing-clause-ended
returns-in-Nothing-clause-ended g c = deal_ended _ _ _ (subst DealLaw c.self.view_is c.self.invariant.0) c.take.ensures.event

pub returns-in-One-clause-ended : goal.returns-in-One-clause-ended
returns-in-One-clause-ended g c = deal_ended _ _ _ (subst DealLaw c.self.view_is c.self.invariant.0) c.send.ensures.event
