use Rattle.std.proofs.Common.{refl, arith}
use Rattle.xb_samples.specs.Samples.{RefusesBits, bits_reading, bits_state}
use Rattle.xb_samples.proofs.FaultLemmas.{bits_refuse_later, faults_more, faults_whole}
use Rattle.xb_samples.proofs.RefusedLemmas.{refused_with}
use Rattle.xb_samples.proofs.WaitLemmas.{events_more, events_whole, state_more, state_whole}
use Rattle.xb_samples.proofs.bits.Bits.take_bytes.Goals as goal

pub loop-byte-preserved : goal.loop-byte-preserved
loop-byte-preserved c =
    let old = bits_state c.loop-byte.self in
    let new = bits_state c.take_byte.new.self in
    let bytes = c.args.bytes.now in
    let i = c.loop-byte.byte-index in
    let inside = c.loop-byte-test.true in
    let took = c.in_ok-take_byte.ensures in
    let so_far = c.loop-byte.invariant in
    record {
      events = events_more bits_reading old new bytes i 0 c.loop-byte.events.items c.take_byte.new.events.items _
          inside took.state took.events so_far.events;
      state = state_more bits_reading old new _ bytes i 0 inside took.state so_far.state;
      count = omega (arith, took.count, so_far.count);
      faults = faults_more (bits_state c.args.self.now) old new bytes i inside took.faults so_far.faults;
    }

pub returns-clause-events : goal.returns-clause-events
returns-clause-events c =
    events_whole bits_reading (bits_state c.loop-byte.self) c.args.bytes.now c.loop-byte.byte-index
    c.loop-byte.events.items _ c.loop-byte-test.false c.loop-byte.invariant.events

pub returns-clause-state : goal.returns-clause-state
returns-clause-state c =
    state_whole bits_reading (bits_state c.loop-byte.self) _ c.args.bytes.now c.loop-byte.byte-index
    c.loop-byte-test.false c.loop-byte.invariant.state

pub loop-byte-init : goal.loop-byte-init
loop-byte-init c = record { events = refl; state = refl; count = omega arith; faults = λ text. refl }

pub returns-in_err-take_byte-clause-refused : goal.returns-in_err-take_byte-clause-refused
returns-in_err-take_byte-clause-refused c =
    let refusal = c.in_err-take_byte.field-0.0 in
    refused_with c.from_residual.result refusal (RefusesBits (bits_state c.args.self.now) c.args.bytes.now)
    c.from_residual.ensures.1
    (bits_refuse_later (bits_state c.args.self.now) (bits_state c.loop-byte.self) c.args.bytes.now c.loop-byte.byte-index refusal
    c.loop-byte.invariant.count c.loop-byte-test.true c.loop-byte.invariant.faults c.in_err-take_byte.ensures.refused)

pub returns-clause-faults : goal.returns-clause-faults
returns-clause-faults c =
    faults_whole (bits_state c.args.self.now) (bits_state c.loop-byte.self) c.args.bytes.now c.loop-byte.byte-index
    c.loop-byte-test.false c.loop-byte.invariant.faults
