use Rattle.std.proofs.Common.{ℕ, ◌+◌, ap, ap₂, ◌∙◌, arith}
use Rattle.xb_calls.specs.Dialling.{pulse_count}
use Rattle.xb_worn.specs.Faults.{pulse_fault, pulse_place}
use Rattle.xb_worn.specs.Sending.{with_fault}
use Rattle.std.specs.Prelude.{◌++◌}
use Rattle.xb_worn.proofs.SentDigits.{pulse-last, pulse-more}
use Rattle.xb_worn.proofs.sending.pulses_of.Goals as goal

pub loop-before-preserved : goal.loop-before-preserved
loop-before-preserved c =
    let before : ℕ = c.loop-before.before in
    let count = c.pulse_count-before-end.ensures.count in
    let below = c.loop-before-test.true in
    record {
      within = omega (arith, below, count);
      rest =
          pulse-more c.args.wear.now c.args.faults.now c.args.place c.args.state before
          (pulse_count c.args.digit)
          (omega (arith, below, count)) c.loop-before.pulses.items c.push_pulse.new.pulses.items _
          c.loop-before.invariant.rest
          (c.in_ok-push_pulse.ensures
          ∙ ap₂ (λ fault pulse. c.loop-before.pulses.items ++ with_fault fault pulse)
          (c.pulse_fault-fault.ensures
          ∙ ap (λ n. pulse_fault (pulse_place c.args.place (n + 1)) c.args.faults.now) c.from-pulse.ensures)
          c.pulse.ensures);
    }

pub returns : goal.returns
returns c =
    let count = c.pulse_count-before-end.ensures.count in
    let above = c.loop-before-test.false in
    let within = c.loop-before.invariant.within in
    pulse-last c.args.wear.now c.args.faults.now c.args.place c.args.state c.loop-before.before
    (pulse_count c.args.digit)
    (omega (arith, count, above, within)) c.loop-before.pulses.items _ c.loop-before.invariant.rest
