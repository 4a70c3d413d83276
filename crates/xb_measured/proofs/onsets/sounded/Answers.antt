use Rattle.std.proofs.Common.{◌∙◌, ◌/◌, ℕ, ap, arith}
use Rattle.std.specs.List.{range_with_len, sum_by}
use Rattle.xb_measured.specs.Onsets.{level_at, share_of}
use Rattle.xb_measured.proofs.OnsetSteps.{shares-end, shares-more}
use Rattle.xb_measured.proofs.onsets.sounded.Goals as goal

pub loop-step-preserved : goal.loop-step-preserved
loop-step-preserved c =
    let f : ℕ → ℕ = λ step. share_of (level_at c.args.hz c.args.round.now step) c.level_at-last.result in record {
      so_far = shares-more f c.loop-step.step 5 c.loop-step.shares c.share_of-shares.result _ c.loop-step-test.true
          c.loop-step.invariant.so_far
          (c.share_of-shares.ensures.value
          ∙ ap (λ (level : ℕ). share_of level c.level_at-last.result) c.level_at.ensures.value);
      few = omega (arith, c.loop-step.invariant.few, c.share_of-shares.ensures.bound);
    }

pub returns : goal.returns
returns c =
    let f : ℕ → ℕ = λ step. share_of (level_at c.args.hz c.args.round.now step) c.level_at-last.result in
    ap (λ (shares : ℕ). shares / 20)
    (shares-end f c.loop-step.step 5 c.loop-step.shares _ c.loop-step-test.false c.loop-step.invariant.so_far
    ∙ ap (λ (last : ℕ). sum_by (λ step. share_of (level_at c.args.hz c.args.round.now step) last) (range_with_len 0 5))
    c.level_at-last.ensures.value)
