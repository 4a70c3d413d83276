use Rattle.std.proofs.Common.{◌≡◌, set, inr, refl, sym, ap, ◌∙◌, subst}
use Rattle.std.specs.List.{AllByRecursion}
use Rattle.xb_model.specs.declared.mark.Mark.{Mark}
use Rattle.xb_model.specs.declared.on.On.{On}
use Rattle.xb_model.specs.Lines.{row_line, on_line_of}
use Rattle.xb_model.specs.Tapes.{EndsAtLast}
use Rattle.xb_model.specs.OnLines.{on_line}
use Rattle.xb_serial.specs.Chain.{marks_of_row}
use Rattle.xb_serial.specs.Office.{Office, HasTaken, IsEntryOrNone}
use Rattle.xb_serial.proofs.Fusion.{row_marks-on}
use Rattle.xb_images.proofs.LineTapes.{whats_of-on_line}
use Rattle.xb_serial.proofs.OneRow.{taken-more}
use Rattle.xb_serial.proofs.live.Live.take.Goals as goal

-- the marks that are put on the line are those of the row
gives : (c : goal.After-put_on) → c.put_on.new.given.items ≡ marks_of_row c.self.inside.table c.get_mut.result.now c.args.row
gives c =
    c.put_on.ensures
    ∙ ap (λ l. on_line l c.deref.result.now) c.line-line.ensures
    ∙ ap (on_line c.args.row.line) c.deref.ensures.0
    ∙ c.in-Some.ensures.marks

pub returns-in-Some-clause-taken : goal.returns-in-Some-clause-taken
returns-in-Some-clause-taken c = λ rows marks taken.
    let office : Office = record { table = c.self.inside.table; lines = c.self.inside.lines; given = c.self.inside.given.items } in
    let after : Office = record { table = c.self.inside.table; lines = set c.self.inside.lines c.line-line.result c.take.new.self; given = c.put_on.new.given.items } in
    taken-more office after rows marks c.args.row c.line-line.result c.get_mut.result.now c.take.new.self
    (subst (λ (o : Office). HasTaken o rows marks) (sym c.self.view_is) taken) refl refl
    c.get_mut.ensures.lines c.get_mut.ensures.below c.line-line.ensures (c.get_mut.ensures.value c.get_mut.result.now)
    c.take.ensures.state (gives c)

pub returns-in-Some-clause-line : goal.returns-in-Some-clause-line
returns-in-Some-clause-line c =
    subst (AllByRecursion (λ (mark : On Mark). on_line_of mark ≡ row_line c.args.row)) (sym (gives c))
    (row_marks-on c.self.inside.table c.get_mut.result.now c.args.row)

pub returns-in-Some-clause-entry : goal.returns-in-Some-clause-entry
returns-in-Some-clause-entry c =
    subst IsEntryOrNone (sym c.put_on.ensures)
    (inr (subst EndsAtLast (sym (whats_of-on_line c.line-line.result c.deref.result.now ∙ c.deref.ensures.0)) c.in-Some.ensures.entry))

pub returns-in_default-clause-taken : goal.returns-in_default-clause-taken
returns-in_default-clause-taken c = λ rows marks taken.
    let office : Office = record { table = c.self.inside.table; lines = c.self.inside.lines; given = c.self.inside.given.items } in
    let after : Office = record { table = c.self.inside.table; lines = set c.self.inside.lines c.line-line.result c.take.new.self; given = c.clear.new.self.items } in
    taken-more office after rows marks c.args.row c.line-line.result c.get_mut.result.now c.take.new.self
    (subst (λ (o : Office). HasTaken o rows marks) (sym c.self.view_is) taken) refl refl
    c.get_mut.ensures.lines c.get_mut.ensures.below c.line-line.ensures (c.get_mut.ensures.value c.get_mut.result.now)
    c.take.ensures.state
    (c.clear.ensures ∙ sym c.in_default.ensures.none)
