use Rattle.std.proofs.Common.{◌∙◌, None, Option, Some, ap, map, subst, sym}
use Rattle.xb_ear.specs.declared.hearing.Heard.{Heard as HeardKey}
use Rattle.xb_ear.specs.Ears.{heard}
use Rattle.xb_ear.specs.Hearings.{listed as listed_key}
use Rattle.xb_measured.specs.Receivers.{HasReceived}
use Rattle.xb_measured.specs.Tapes.{heard_in}
use Rattle.xb_measured.proofs.Received.{one-measured, received-last}
use Rattle.xb_measured.proofs.receiver.Receiver.finish.Goals as goal

pub returns-in-Some : goal.returns-in-Some
returns-in-Some c samples keys given =
    let has = subst (λ receiver. HasReceived receiver samples keys) (sym c.self.view_is) given in
    received-last _ samples keys c.finish.result (Some c.measured.result) has (c.finish.ensures samples (heard samples) has.ear)
    (one-measured samples c.in-Some.key c.measured.result (c.measured.ensures samples (heard samples) has.ear has.tape)
    ∙ ap (λ (k : Option HeardKey). map (heard_in samples) (listed_key k)) (sym c.in-Some.is))

pub returns-in-None : goal.returns-in-None
returns-in-None c samples keys given =
    let has = subst (λ receiver. HasReceived receiver samples keys) (sym c.self.view_is) given in
    received-last _ samples keys c.finish.result None has (c.finish.ensures samples (heard samples) has.ear)
    (ap (λ (k : Option HeardKey). map (heard_in samples) (listed_key k)) (sym c.in-None.is))
