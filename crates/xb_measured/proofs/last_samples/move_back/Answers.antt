use Rattle.std.proofs.Common.{◌∙◌, ◌-◌, List, ap, take, ℤ}
use Rattle.xb_measured.proofs.TapeSteps.{kept-back}
use Rattle.xb_measured.proofs.last_samples.move_back.Goals as goal

pub returns-clause-moved : goal.returns-clause-moved
returns-clause-moved c =
    ap (λ (w : List ℤ). take (c.args.filled - c.args.begun) w) c.copy_within.ensures.after
    ∙ kept-back c.args.samples.now c.args.begun c.args.filled c.requires.order c.requires.within
