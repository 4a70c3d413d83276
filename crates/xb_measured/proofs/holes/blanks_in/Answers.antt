use Rattle.std.proofs.Common.{arith, List, Option, ℕ}
use Rattle.xb_ear.specs.declared.sight.Sight.{Sight}
use Rattle.xb_measured.proofs.BlankSteps.{blanks-end, blanks-more}
use Rattle.xb_measured.proofs.holes.blanks_in.Goals as goal

pub loop-sight-preserved : goal.loop-sight-preserved
loop-sight-preserved c =
    let i : ℕ = c.loop-sight.sight-index in
    let held : List (Option Sight) = c.args.held.now in record {
      so_far = blanks-more c.loop-sight.was_blank c.is_none-was_blank.result i c.loop-sight.blanks
          c.blank_by-blanks.result _ held c.loop-sight-test.true c.loop-sight.invariant.so_far
          c.blank_by-blanks.ensures.value c.is_none-was_blank.ensures;
      few = omega (arith, c.loop-sight.invariant.few, c.blank_by-blanks.ensures.bound);
    }

pub returns : goal.returns
returns c =
    blanks-end c.loop-sight.was_blank c.loop-sight.sight-index c.loop-sight.blanks _ c.args.held.now
    c.loop-sight-test.false c.loop-sight.invariant.so_far
