use Rattle.std.proofs.Common.{◌≡◌, ◌∙◌, ◌∷◌, [], ◌++◌, Bool, false, ℤ, ap, rules, subst, FitsSigned}
use Rattle.std.specs.Int.{w16}
use Rattle.std.proofs.lemmas.Int.{to_z-of_z}
use Rattle.xb_measured.specs.Receivers.{listed}
use Rattle.xb_measured.specs.Receivers.{HasReceived}
use Rattle.xb_measured.specs.Meters.{metered}
use Rattle.xb_measured.specs.ButtonBlocks.{HasTaken}
use Rattle.xb_rx.specs.Listeners.{has_kp, has_kp_with, is_keyed_with}
use Rattle.xb_rx.proofs.Listened.{keyed-more, kp-before, kp-more}
use Rattle.xb_rx.proofs.listener.Listener.take.Goals as goal

pub returns-clause-heard : goal.returns-clause-heard
returns-clause-heard c = λ samples keys has.
    let fits : FitsSigned w16 c.args.sample = search rules in
    let same = to_z-of_z w16 c.args.sample fits in record {
      received = subst (λ (z : ℤ). HasReceived c.take-key.new.self (samples ++ z ∷ []) (keys ++ listed c.take-key.result)) same
          (c.take-key.ensures samples keys has.received);
      metered = c.take.ensures.more samples has.metered ∙ ap (λ (z : ℤ). metered (samples ++ z ∷ [])) same;
      keyed = c.is_keyed_with-self.ensures
          ∙ ap (λ (b : Bool). is_keyed_with b c.take-key.result) has.keyed
          ∙ keyed-more keys c.take-key.result;
      kp = c.has_kp_with-self.ensures
          ∙ ap (λ (b : Bool). has_kp_with b c.take-key.result) has.kp
          ∙ kp-more keys c.take-key.result;
      pressed = λ none.
          let before : has_kp keys ≡ false
          = kp-before (has_kp keys) c.take-key.result (kp-more keys c.take-key.result ∙ none) in
          subst (λ (z : ℤ). HasTaken c.press.new.buttons (samples ++ z ∷ [])) same
          (c.press.ensures (has.kp ∙ before) samples (has.pressed before));
    }
