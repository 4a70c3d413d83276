use Rattle.std.proofs.Common.{◌∙◌, Err, ap}
use Rattle.std.proofs.lemmas.Result.{err_from_is_err_and}
use Rattle.xb_measured.specs.Receivers.{listed}
use Rattle.xb_rx.specs.Shown.{shown}
use Rattle.xb_rx.proofs.LastSteps.{parts-after, parts-fault}
use Rattle.xb_rx.proofs.parts.Parts.end.Goals as goal

pub returns-in_err-take : goal.returns-in_err-take
returns-in_err-take g c =
    let p = err_from_is_err_and c.from_residual.result c.from_residual.ensures.1 in
    parts-fault (shown c.args.self.now) (listed c.args.key) c.in_err-take.field-0.0 _ _ _ (p.1 ∙ ap (λ f. Err f) p.2)
    c.in_err-take.ensures.text

pub returns : goal.returns
returns g c =
    parts-after (shown c.args.self.now) (shown c.take.new.self) (listed c.args.key) c.close.result _ _ _
    c.in_ok-take.ensures.text c.close.ensures
