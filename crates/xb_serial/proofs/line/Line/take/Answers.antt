use Rattle.std.proofs.Common.{◌≡◌, ◌∙◌, fold, sym, ap}
use Rattle.std.proofs.lemmas.Option.{IfSome_then}
use Rattle.xb_model.specs.OnLines.{on_line}
use Rattle.xb_pulse.specs.Machine.{signals_by, phase_after as pulse_after}
use Rattle.xb_register.specs.Machine.{phase_after}
use Rattle.xb_serial.specs.Chain.{line_state}
use Rattle.xb_serial.specs.Entrances.{marks_from}
use Rattle.xb_serial.proofs.Entrances.{no_marks, row_marks}
use Rattle.xb_serial.proofs.OneOutcome.{fold-on_line, one_at_most}
use Rattle.xb_serial.proofs.line.Line.take.Goals as goal

-- the signals that the register hears, before it does and after
signals : (c : goal.After-deref) → c.deref.result.now ≡ signals_by c.args.table.now.limits c.args.self.now.pulse c.args.row
signals c =
    c.deref.ensures.0 ∙ c.take-signals.ensures.sent
    ∙ ap (λ limits. signals_by limits c.args.self.now.pulse c.args.row) (c.new.ensures.limits ∙ c.limits.ensures.value)

heard : (c : goal.After-hear_all) → c.deref.result.now ≡ signals_by c.args.table.now.limits c.args.self.now.pulse c.args.row
heard c =
    c.deref.ensures.0 ∙ c.take-signals.ensures.sent
    ∙ ap (λ limits. signals_by limits c.args.self.now.pulse c.args.row) (c.new.ensures.limits ∙ c.limits.ensures.value)

pub hear_all-requires : goal.hear_all-requires
hear_all-requires c = rw (signals c) (one_at_most c.args.table.now c.args.self.now c.args.row)

pub returns-clause-marks : goal.returns-clause-marks
returns-clause-marks c =
    IfSome_then c.hear_all.result c.hear_all.ensures.marks
    (λ marks e. ap (on_line c.args.row.line) (e ∙ ap (marks_from c.args.table.now c.args.self.now.register) (heard c))
    ∙ row_marks c.args.table.now c.args.self.now c.args.row)

pub returns-clause-none : goal.returns-clause-none
returns-clause-none c =
    no_marks c.args.table.now c.args.self.now c.args.row c.hear_all.result
    (rw (← heard c) c.hear_all.ensures.none)

pub returns-clause-state : goal.returns-clause-state
returns-clause-state c =
    let table = c.args.table.now in
    let state = c.args.self.now in
    let sent = signals_by table.limits state.pulse c.args.row in
    let pulse : c.take-signals.new.state ≡ pulse_after table.limits state.pulse c.args.row =
    c.take-signals.ensures.state ∙ ap (λ limits. pulse_after limits state.pulse c.args.row) (c.new.ensures.limits ∙ c.limits.ensures.value) in
    c.hear_all.ensures.state
    ∙ ap (λ signals. line_state c.take-signals.new.state (fold (phase_after table.plan) state.register signals)) (heard c)
    ∙ ap (λ phase. line_state phase (fold (phase_after table.plan) state.register sent)) pulse
    ∙ ap (line_state (pulse_after table.limits state.pulse c.args.row))
    (sym (fold-on_line table c.args.row.line state.register sent))
