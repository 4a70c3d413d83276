use Rattle.std.proofs.Common.{ap₂, ◌∙◌, arith}
use Rattle.xb_worn.specs.Sending.{call_sent}
use Rattle.xb_worn.specs.SentCalls.{sent_call}
use Rattle.xb_worn.specs.WornRows.{next_rows}
use Rattle.xb_worn.proofs.WornLines.{place-call}
use Rattle.xb_worn.proofs.lines.take_call.Goals as goal

pub returns-in-Ok-clause-rows : goal.returns-in-Ok-clause-rows
returns-in-Ok-clause-rows c =
    let speed = c.args.wear.now.speed in
    let old = c.get_mut-rows.result.now in
    let below = c.get_mut-rows.ensures.below in
    let lines = c.get_mut-rows.ensures.lines in
    place-call (λ rows. rows.items) speed.hang_up_ms
    (call_sent c.args.wear.now c.args.faults.now c.args.number c.args.state c.args.call.now)
    c.args.lines.now c.line-line.result old c.push_next_call.new.rows c.line-line.ensures
    (omega (arith, below, lines)) (c.get_mut-rows.ensures.value old)
    (c.in-Ok.ensures.rows
    ∙ ap₂ (λ line pulses. next_rows speed.hang_up_ms (sent_call line speed.seize_ms pulses) old.items)
    c.line-line.ensures (c.deref.ensures.value ∙ c.in_ok-pulses.ensures))
