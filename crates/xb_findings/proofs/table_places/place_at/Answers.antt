use Rattle.std.proofs.Common.{arith, ap}
use Rattle.xb_findings.proofs.Placing.{small_line}
use Rattle.xb_findings.proofs.table_places.place_at.Goals as goal

pub returns-clause-few : goal.returns-clause-few
returns-clause-few c =
    let small = ap (λ p. p.line) c.reach.ensures.reached.place in
    let few = small_line c.args.text.now c.reach.result.at in
    omega (arith, small, few, c.reach.ensures.reached.within, c.requires)
