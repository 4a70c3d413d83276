use Rattle.std.proofs.Common.{◌∙◌, ◌∷◌, [], ◌++◌, List, Option, ap, map, rules, subst, sym, ℤ, FitsSigned}
use Rattle.std.specs.Int.{w16}
use Rattle.std.proofs.lemmas.Int.{to_z-of_z}
use Rattle.xb_ear.specs.declared.hearing.Heard.{Heard as HeardKey}
use Rattle.xb_ear.specs.Ears.{heard}
use Rattle.xb_ear.specs.Hearings.{listed as listed_key}
use Rattle.xb_ear.specs.Receivers.{HasReceived as HasEarReceived}
use Rattle.xb_measured.specs.declared.heard.Heard.{Heard}
use Rattle.xb_measured.specs.Receivers.{HasReceived, listed}
use Rattle.xb_measured.specs.Tapes.{IsTapeOf, heard_in}
use Rattle.xb_measured.proofs.Received.{one-measured, received-more}
use Rattle.xb_measured.proofs.receiver.Receiver.take.Goals.{in-None, in-Some}
use Rattle.xb_measured.proofs.receiver.Receiver.take.Goals as goal

pub returns : goal.returns
returns c samples keys given =
    let has = subst (λ receiver. HasReceived receiver samples keys) (sym c.self.view_is) given in
    let fits : FitsSigned w16 c.args.sample = search rules in
    let same = to_z-of_z w16 c.args.sample fits in
    let all : List ℤ = samples ++ c.args.sample ∷ [] in
    let ear = subst (λ (z : ℤ). HasEarReceived c.take-2.new.self (samples ++ z ∷ []) (heard samples ++ listed_key c.take-2.result))
    same (c.take-2.ensures samples (heard samples) has.ear) in
    let tape = subst (λ (z : ℤ). IsTapeOf c.take.new.self (samples ++ z ∷ [])) same (c.take.ensures samples has.tape) in
    elim c.match-take.branch [
      | in-Some w ↦ received-more _ _ samples keys c.args.sample c.take-2.result c.match-take.result has ear tape
          (ap (λ (k : Option Heard). listed k) w.result-is
          ∙ one-measured all w.in-Some.key w.measured.result (w.measured.ensures all _ ear tape)
          ∙ ap (λ (k : Option HeardKey). map (heard_in all) (listed_key k)) (sym w.in-Some.is))
      | in-None w ↦ received-more _ _ samples keys c.args.sample c.take-2.result c.match-take.result has ear tape
          (ap (λ (k : Option Heard). listed k) w.result-is
          ∙ ap (λ (k : Option HeardKey). map (heard_in all) (listed_key k)) (sym w.in-None.is))
    ]
