use Rattle.std.proofs.Common.{◌∙◌, sym}
use Rattle.xb_ear.specs.Pairs.{six}
use Rattle.xb_ear.proofs.FirstPairs.{found, none-found}
use Rattle.xb_ear.proofs.sight.seen.Goals as goal

pub returns-then-is_some-clause-value : goal.returns-then-is_some-clause-value
returns-then-is_some-clause-value c =
    found c.args.least c.args.levels six c.loop-place.place c.loop-place-test.true c.first_below-sight.result _
    c.first_below-sight.ensures.value c.loop-place.invariant (sym c.is_some.ensures ∙ c.if-is_some.true)

pub loop-place-preserved : goal.loop-place-preserved
loop-place-preserved c =
    none-found c.args.least c.args.levels six c.loop-place.place c.loop-place-test.true c.first_below-sight.result _
    c.first_below-sight.ensures.value c.loop-place.invariant (sym c.is_some.ensures ∙ c.if-is_some.false)
