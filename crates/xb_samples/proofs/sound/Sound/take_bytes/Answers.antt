use Rattle.std.proofs.Common.{◌≡◌, ℕ, List, [], ◌∷◌, ◌++◌, get_or, length, refl, subst, ◌∙◌, arith}
use Rattle.xb_riff.specs.declared.coding.Coding.{Coding}
use Rattle.xb_samples.specs.Pieces.{RunsOver, after_piece, piece_events}
use Rattle.xb_samples.specs.Sounds.{begun_after, samples_after, sound_reading, sound_state}
use Rattle.xb_samples.proofs.SoundLemmas.{byte_events, byte_begun, byte_state, bytes_events, bytes_begun, bytes_state}
use Rattle.xb_samples.proofs.RefusedLemmas.{over_later, refused_with}
use Rattle.xb_samples.proofs.sound.Sound.take_bytes.Goals as goal

pub loop-byte-preserved : goal.loop-byte-preserved
loop-byte-preserved c =
    let old = c.loop-byte.self in
    let new = c.take_byte.new.self in
    let bytes = c.args.bytes.now in
    let i = c.loop-byte.byte-index in
    let inside = c.loop-byte-test.true in
    let took = c.in_ok-take_byte.ensures in
    let so_far = c.loop-byte.invariant in
    let how = c.args.self.now.coding in
    let byte : List ℕ = get_or bytes i 0 ∷ [] in
    let events = subst (λ (h : Coding). c.take_byte.new.events.items
    ≡ c.loop-byte.events.items ++ piece_events sound_reading (sound_state old) (samples_after h old.begun.items byte)) so_far.coding took.events in
    let state = subst (λ (h : Coding). sound_state new ≡ after_piece sound_reading (sound_state old) (samples_after h old.begun.items byte))
    so_far.coding took.state in
    let begun = subst (λ (h : Coding). new.begun.items ≡ begun_after h old.begun.items byte) so_far.coding took.begun in
    record {
      events = byte_events how (sound_state old) (sound_state new) old.begun.items new.begun.items bytes i c.loop-byte.events.items
          c.take_byte.new.events.items _ inside events state begun so_far.events;
      state = byte_state how (sound_state old) (sound_state new) _ old.begun.items new.begun.items bytes i inside state begun so_far.state;
      begun = byte_begun how old.begun.items new.begun.items _ bytes i inside begun so_far.begun;
      left = took.left ∙ so_far.left;
      tail = took.tail ∙ so_far.tail;
      coding = took.coding ∙ so_far.coding;
      count = omega (arith, took.count, so_far.count);
    }

pub returns-clause-events : goal.returns-clause-events
returns-clause-events c =
    bytes_events c.args.self.now.coding (sound_state c.loop-byte.self) c.loop-byte.self.begun.items c.args.bytes.now c.loop-byte.byte-index
    c.loop-byte.events.items _ c.loop-byte-test.false c.loop-byte.invariant.events

pub returns-clause-state : goal.returns-clause-state
returns-clause-state c =
    bytes_state c.args.self.now.coding (sound_state c.loop-byte.self) _ c.loop-byte.self.begun.items c.args.bytes.now c.loop-byte.byte-index
    c.loop-byte-test.false c.loop-byte.invariant.state

pub returns-clause-begun : goal.returns-clause-begun
returns-clause-begun c =
    bytes_begun c.args.self.now.coding c.loop-byte.self.begun.items _ c.args.bytes.now c.loop-byte.byte-index c.loop-byte-test.false
    c.loop-byte.invariant.begun

pub loop-byte-init : goal.loop-byte-init
loop-byte-init c = record { events = refl; state = refl; begun = refl; left = refl; tail = refl; coding = refl; count = omega arith }

pub returns-in_err-take_byte-clause-over : goal.returns-in_err-take_byte-clause-over
returns-in_err-take_byte-clause-over c =
    let refusal = c.in_err-take_byte.field-0.0 in
    refused_with c.from_residual.result refusal (RunsOver c.args.self.now.count (length c.args.bytes.now))
    c.from_residual.ensures.1
    (over_later c.args.self.now.count c.loop-byte.self.count c.loop-byte.byte-index (length c.args.bytes.now) refusal
    c.loop-byte.invariant.count c.loop-byte-test.true c.in_err-take_byte.ensures.over)
