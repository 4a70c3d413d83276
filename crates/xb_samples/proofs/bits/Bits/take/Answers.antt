use Rattle.std.proofs.Common.{◌≡◌, ◌≤◌, ◌+◌, ◌^◌, ℕ, List, [], ◌∷◌, ◌++◌, Some, ap, length, ◌∙◌}
use Rattle.std.specs.Prelude.{◌⊎◌}
use Rattle.std.proofs.lemmas.Result.{on_ok_weaker}
use Rattle.xb_contact.specs.declared.event.Event.TheVariants.{At}
use Rattle.xb_contact.specs.declared.event.Refusal.TheVariants.{TooLate}
use Rattle.xb_samples.specs.Pieces.{piece_events}
use Rattle.xb_samples.specs.Samples.{RefusesBits, bits_fault, bits_reading, bits_state}
use Rattle.xb_samples.proofs.BitLemmas.{bits_say_when}
use Rattle.xb_samples.proofs.RefusedLemmas.{ok_anyway, out_of_memory, refused_with}
use Rattle.xb_samples.proofs.WaitLemmas.{piece_says}
use Rattle.xb_samples.proofs.bits.Bits.take.Goals as goal

pub returns-clause-said : goal.returns-clause-said
returns-clause-said c =
    let old = bits_state c.args.self.now in
    let new = bits_state c.take_bytes.new.self in
    let mid = c.take_bytes.new.events.items in
    on_ok_weaker c.say.result
    (λ (told : c.say.new.events.items ≡ mid ++ At new.count ∷ []).
    λ text later rest. piece_says bits_reading old new c.args.bytes.now text mid c.say.new.events.items later bits_say_when
    (c.in_ok-take_bytes.ensures.events ∙ ap (λ before. before ++ piece_events bits_reading old c.args.bytes.now) c.requires)
    c.in_ok-take_bytes.ensures.state told rest)
    c.say.ensures.said

pub returns-clause-refused : goal.returns-clause-refused
returns-clause-refused c =
    let old = bits_state c.args.self.now in
    out_of_memory c.say.result
    (λ refusal. ((refusal ≡ TooLate) × (2 ^ 64 ≤ old.count + length c.args.bytes.now))
    ⊎ ((text : List ℕ) → bits_fault old (c.args.bytes.now ++ text) ≡ Some refusal))
    c.say.ensures.only

pub returns-clause-faults : goal.returns-clause-faults
returns-clause-faults c = ok_anyway c.say.result c.in_ok-take_bytes.ensures.faults

pub returns-in_err-take_bytes-clause-refused : goal.returns-in_err-take_bytes-clause-refused
returns-in_err-take_bytes-clause-refused c =
    refused_with c.from_residual.result c.in_err-take_bytes.field-0.0
    (RefusesBits (bits_state c.args.self.now) c.args.bytes.now) c.from_residual.ensures.1
    c.in_err-take_bytes.ensures.refused
