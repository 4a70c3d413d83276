use Rattle.std.proofs.Common.{◌∙◌, rules}
use Rattle.xb_worn.specs.Sending.{sent}
use Rattle.xb_worn.proofs.WornLines.{with_calls-all}
use Rattle.xb_worn.proofs.lines.rows_by_line.Goals as goal

pub returns-clause-rows : goal.returns-clause-rows
returns-clause-rows c =
    c.in_ok-take_calls.ensures.rows
    ∙ with_calls-all (λ rows. rows.items) c.args.wear.now.speed.hang_up_ms
    (sent c.args.wear.now c.args.faults.now c.args.calls.now) c.in_ok-lines.lines c.in_ok-lines.ensures.lines
    (λ k d h. let made = c.in_ok-lines.ensures.made k d h in search rules) c.in_ok-take_calls.ensures.lines
