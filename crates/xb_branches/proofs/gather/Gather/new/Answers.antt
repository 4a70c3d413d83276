use Rattle.std.proofs.Common.{◌≤◌, map, subst}
use Rattle.rtrb.specs.Ring.{received}
use Rattle.xb_branches.specs.declared.gathered.Gathered.TheVariants.{Wants}
use Rattle.xb_branches.proofs.Gathers.{gathers_fresh, counts_fresh, gather_law}
use Rattle.xb_branches.proofs.gather.Gather.new.Goals as goal
use Rattle.xb_branches.specs.declared.branches.TheConstants.{MOST_BRANCHES}

pub invariant_of-result : goal.invariant_of-result
invariant_of-result g c =
    let len = c.args.consumers.ok.0 in
    rw c.requires.sent (
      gathers_fresh g.T.Ending.ending c.args.consumers.items (subst (λ n. 1 ≤ n) len c.requires.least) (subst (λ n. n ≤ MOST_BRANCHES) len c.requires.most) c.requires.received,
      counts_fresh c.args.consumers.items c.requires.received,
    )

pub returns-clause-lawful : goal.returns-clause-lawful
returns-clause-lawful g c = gather_law g.T.Ending.ending (map received c.args.consumers.items) _ Wants 0 (invariant_of-result g c).0
