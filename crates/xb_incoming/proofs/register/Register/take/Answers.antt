use Rattle.std.proofs.Common.{◌≡◌, ◌∙◌, ◌∷◌, [], ◌++◌, ap, sym, subst}
use Rattle.std.specs.Option.{option_to_list}
use Rattle.xb_incoming.specs.declared.phase.Step.{Step}
use Rattle.xb_incoming.specs.Machine.{HasTaken, advance}
use Rattle.xb_incoming.proofs.Taken.{in_phase, takes}
use Rattle.xb_incoming.proofs.register.Register.take.Goals as goal

pub returns : goal.returns
returns c limit keys told has =
    let register = c.args.self.now in
    let step : c.advance-outcome.result ≡ advance register.timeout_ms register.phase c.args.key =
    c.advance-outcome.ensures
    ∙ ap (λ phase. advance register.timeout_ms phase c.args.key) c.replace-phase.ensures.value in
    subst
    (λ (step : Step). HasTaken limit (in_phase register.timeout_ms step.phase) (keys ++ c.args.key ∷ [])
    (told ++ option_to_list step.outcome))
    (sym step)
    (takes limit register c.args.key keys told has)
