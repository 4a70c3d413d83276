use Rattle.std.proofs.Common.{◌≡◌, arith, rules, tests}
use Rattle.std.specs.Prelude.{nat_le}
use Rattle.std.proofs.lemmas.Iterator.{YieldsList-from_slice}
use Rattle.std.proofs.lemmas.Iterator.Consumers.{YieldsList-from_filter, count_from_yields_List}
use Rattle.std.proofs.lemmas.List.Sums.{count_by-le-length, length-filter}
use Rattle.xb_measured.specs.Levels.{count_up_to}
use Rattle.xb_measured.proofs.levels.count_up_to.Goals as goal

pub returns-clause-value : goal.returns-clause-value
returns-clause-value c =
    count_from_yields_List c.filter.result _ c.count.ensures.ran
    (YieldsList-from_filter _ (λ bound. nat_le bound c.args.number) (YieldsList-from_slice c.args.bounds.now cc)
    c.filter.ensures.closure (λ x b q k. search (rules, tests)))

pub returns-clause-bound : goal.returns-clause-bound
returns-clause-bound c =
    let bounds = c.args.bounds.now in
    let count : c.count.result ≡ count_up_to c.args.number bounds =
    count_from_yields_List c.filter.result _ c.count.ensures.ran
    (YieldsList-from_filter _ (λ bound. nat_le bound c.args.number) (YieldsList-from_slice bounds cc)
    c.filter.ensures.closure (λ x b q k. search (rules, tests))) in
    let filtered = length-filter (λ bound. nat_le bound c.args.number) bounds in
    let fewer = count_by-le-length (λ bound. nat_le bound c.args.number) bounds in
    omega (arith, count, filtered, fewer)
