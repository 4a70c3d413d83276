use Rattle.std.proofs.Common.{arith, ap, ℕ, List}
use Rattle.std.proofs.lemmas.List.{drop_all, drop_more}
use Rattle.xb_measured.specs.ButtonBlocks.{strongest}
use Rattle.xb_measured.proofs.button_block.strongest.Goals as goal

pub loop-hz-preserved : goal.loop-hz-preserved
loop-hz-preserved c =
    let i = c.loop-hz.hz-index in
    let xs = c.args.frequencies.now in
    let more = ap (λ (ys : List ℕ). strongest c.args.block.now ys) (drop_more xs i 0 c.loop-hz-test.true) in
    (omega (arith, c.loop-hz.invariant.0, more, c.level.ensures.value), omega (arith, c.loop-hz.invariant.1, c.level.ensures.bound))

pub returns-clause-value : goal.returns-clause-value
returns-clause-value c =
    let none = ap (λ (ys : List ℕ). strongest c.args.block.now ys)
    (drop_all c.loop-hz.hz-index c.args.frequencies.now c.loop-hz-test.false) in
    omega (arith, c.loop-hz.invariant.0, none)
