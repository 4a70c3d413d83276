use Rattle.std.proofs.Common.{rules}
use Rattle.xb_live.specs.declared.hearings.Hearings.{Hearings}
use Rattle.xb_live.proofs.HeardLines.{heard-none}
use Rattle.xb_live.proofs.hearings.Hearings.new.Goals as goal

pub returns : goal.returns
returns c =
    let hearings : Hearings = record { limits = c.limits-limits.result; plan = c.plan-plan.result; lines = c.in_ok-lines.lines } in
    heard-none c.args.table.now hearings c.limits-limits.ensures.value c.plan-plan.ensures c.in_ok-lines.ensures.lines
    (λ k d h. let made = c.in_ok-lines.ensures.made k d h in search rules)
