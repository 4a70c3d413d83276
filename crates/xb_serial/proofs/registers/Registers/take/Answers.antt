use Rattle.std.proofs.Common.{◌++◌, append-nil, set, refl, sym, ap, ◌∙◌, subst}
use Rattle.std.specs.Option.{option_to_list}
use Rattle.xb_model.specs.OnLines.{on_line}
use Rattle.xb_serial.specs.Taken.{Dialling, HasDialled}
use Rattle.xb_serial.proofs.Taking.{dialled-more}
use Rattle.xb_serial.proofs.registers.Registers.take.Goals as goal

pub returns-in_ok-push : goal.returns-in_ok-push
returns-in_ok-push c = λ plan signals taken.
    let line = c.args.signal.line in
    let d : Dialling = record { plan = c.self.inside.register; lines = c.self.inside.lines; dialled = c.self.inside.dialled.items } in
    let after : Dialling = record { plan = c.self.inside.register; lines = set c.self.inside.lines line c.take-outcome.new.state; dialled = c.push.new.self.items } in
    dialled-more plan d after signals c.args.signal line c.get_mut.result.now c.take-outcome.new.state
    (subst (λ (o : Dialling). HasDialled plan o signals) (sym c.self.view_is) taken) refl refl
    c.get_mut.ensures.lines c.get_mut.ensures.below refl (c.get_mut.ensures.value c.get_mut.result.now)
    c.take-outcome.ensures.state
    (c.in_ok-push.ensures.items ∙ ap (λ whats. c.self.inside.dialled.items ++ on_line line whats) c.in-Some.ensures.outcome)

pub returns-in_default : goal.returns-in_default
returns-in_default c = λ plan signals taken.
    let line = c.args.signal.line in
    let d : Dialling = record { plan = c.self.inside.register; lines = c.self.inside.lines; dialled = c.self.inside.dialled.items } in
    let after : Dialling = record { plan = c.self.inside.register; lines = set c.self.inside.lines line c.take-outcome.new.state; dialled = c.self.inside.dialled.items } in
    dialled-more plan d after signals c.args.signal line c.get_mut.result.now c.take-outcome.new.state
    (subst (λ (o : Dialling). HasDialled plan o signals) (sym c.self.view_is) taken) refl refl
    c.get_mut.ensures.lines c.get_mut.ensures.below refl (c.get_mut.ensures.value c.get_mut.result.now)
    c.take-outcome.ensures.state
    (sym (append-nil c.self.inside.dialled.items)
    ∙ ap (λ whats. c.self.inside.dialled.items ++ on_line line whats) (sym (ap option_to_list c.in_default.is) ∙ c.take-outcome.ensures.outcome))
