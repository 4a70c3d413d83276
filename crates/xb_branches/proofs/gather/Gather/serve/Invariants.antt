use Rattle.xb_branches.specs.Gathers.{SameGather}
use Rattle.xb_branches.proofs.gather.Gather.serve.Given as goal

abbrev pub invariant-loop : goal.invariant-loop
invariant-loop g l =
    (goal.iterator-loop g).can_next l.iterator' × (goal.iterator-loop g).is_finite l.iterator' × SameGather l.initial.self l.self
