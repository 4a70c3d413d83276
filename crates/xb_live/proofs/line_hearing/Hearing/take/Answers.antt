use Rattle.std.proofs.Common.{◌∙◌, ap, rules}
use Rattle.xb_pulse.specs.Machine.{phase_after, signals_by}
use Rattle.xb_live.proofs.HeardSignals.{heard-row}
use Rattle.xb_live.proofs.line_hearing.Hearing.take.Goals as goal

pub returns-clause-signals : goal.returns-clause-signals
returns-clause-signals c =
    c.take-signals.ensures.sent ∙ ap (λ limits. signals_by limits c.args.self.now.pulse c.args.row) c.new.ensures.limits

pub returns-clause-next : goal.returns-clause-next
returns-clause-next c =
    let heard = c.args.self.now in
    heard-row c.args.limits c.args.plan heard c.args.row c.take-signals.new.state c.deref.result.now c.hear_all.new.self c.saturating_add-self.result
    (c.take-signals.ensures.state ∙ ap (λ limits. phase_after limits heard.pulse c.args.row) c.new.ensures.limits)
    (c.deref.ensures.0 ∙ c.take-signals.ensures.sent ∙ ap (λ limits. signals_by limits heard.pulse c.args.row) c.new.ensures.limits)
    (search rules) (search rules)
