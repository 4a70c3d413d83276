use Rattle.std.proofs.Common.{◌≤◌, length, sym, ap, subst}
use Rattle.xb_flow.specs.Flows.{items_of, counted}
use Rattle.xb_branches.proofs.Deals.{deals_fresh}
use Rattle.xb_branches.proofs.deal.Deal.new.Goals as goal
use Rattle.xb_branches.specs.declared.branches.TheConstants.{MOST_BRANCHES}

pub invariant_of-result : goal.invariant_of-result
invariant_of-result g c =
    let len = c.args.producers.ok.0 in (
      deals_fresh _ _ (subst (λ n. 1 ≤ n) len c.requires.least) (subst (λ n. n ≤ MOST_BRANCHES) len c.requires.most) c.requires.received c.requires.sent,
      sym (ap (λ xs. counted (length (items_of xs))) c.requires.received),
    )

pub returns-clause-lawful : goal.returns-clause-lawful
returns-clause-lawful g c = (invariant_of-result g c).0
