use Rattle.std.proofs.Common.{◌++◌, set, refl, sym, ap, ◌∙◌, subst}
use Rattle.std.proofs.lemmas.Result.{on_ok_weaker}
use Rattle.xb_model.specs.OnLines.{on_line}
use Rattle.xb_serial.specs.Taken.{Hearing, HasDialled, HasHeard}
use Rattle.xb_serial.proofs.Taking.{heard-more}
use Rattle.xb_serial.proofs.loops.Loops.take.Goals as goal

pub returns : goal.returns
returns c =
    let h : Hearing = record { limits = c.self.inside.pulse; lines = c.self.inside.lines; registers = c.self.inside.registers } in
    let after : Hearing = record { limits = c.self.inside.pulse; lines = set c.self.inside.lines c.line-line.result c.take-sent.new.state; registers = c.take_all.new.self } in
    on_ok_weaker c.take_all.result
    (λ more. λ limits plan rows taken.
    heard-more limits plan h after rows c.args.row c.line-line.result c.get_mut.result.now c.take-sent.new.state
    (subst (λ (o : Hearing). HasHeard limits plan o rows) (sym c.self.view_is) taken) refl refl
    c.get_mut.ensures.lines c.get_mut.ensures.below c.line-line.ensures (c.get_mut.ensures.value c.get_mut.result.now)
    c.take-sent.ensures.state
    (λ signals dialled.
    subst (HasDialled plan c.take_all.new.self)
    (ap (λ line. signals ++ on_line line c.as_slice.result.now) c.line-line.ensures
    ∙ ap (λ whats. signals ++ on_line c.args.row.line whats) (c.as_slice.ensures.value ∙ c.take-sent.ensures.sent))
    (more plan signals dialled)))
    c.take_all.ensures
