use Rattle.xb_branches.specs.Deals.{SameDeal}
use Rattle.xb_branches.proofs.deal.Deal.serve.Given as goal

abbrev pub invariant-loop : goal.invariant-loop
invariant-loop g l =
    (goal.iterator-loop g).can_next l.iterator' × (goal.iterator-loop g).is_finite l.iterator' × SameDeal l.initial.self l.self
