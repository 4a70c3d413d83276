use Rattle.std.proofs.Common.{◌≡◌, ◌+◌, [], ◌∷◌, ◌++◌, ◌<◌, Some, true, false, refl, sym, ap, ◌∙◌, subst, set, add-zero}
use Rattle.xb_model.specs.declared.line.TheConstants.{LINES}
use Rattle.xb_model.specs.Page.{is_refused}
use Rattle.xb_tape.specs.GatheredMarks.{whats_of}
use Rattle.xb_live.specs.Entries.{entries_of_rows, numbered_after}
use Rattle.xb_live.specs.Counting.{Counted, HasCounted, entry_of, numbered_by}
use Rattle.xb_live.proofs.Counts.{no_items, some_items, next_is, row-completes, row-silent, row-unnumbered, row-numbered, row-spoken}
use Rattle.xb_live.proofs.counting.Counting.take.Goals as goal

pub returns-then-is_empty-clause-counted : goal.returns-then-is_empty-clause-counted
returns-then-is_empty-clause-counted c = λ rows counted.
    let office : Counted = record { live = c.self.inside.live; numbers = c.self.inside.numbers; keyed = c.self.inside.keyed; refused = c.self.inside.refused; entry = c.self.inside.entry.items } in
    let before : HasCounted office rows = subst (λ (o : Counted). HasCounted o rows) (sym c.self.view_is) counted in
    let after : Counted = record { live = c.take.new.self; numbers = c.self.inside.numbers; keyed = c.self.inside.keyed; refused = c.self.inside.refused; entry = c.keep_marks.new.entry.items } in
    row-silent office after c.args.row c.take.ensures.table c.take.ensures.taken c.take.ensures.line c.take.ensures.entry
    (c.keep_marks.ensures.marks ∙ ap whats_of c.given.ensures.value) rows before (no_items c.keep_marks.new.entry (sym c.if-is_empty.true ∙ c.is_empty.ensures)) (search c.well_formed) refl refl refl

pub returns-then-is_empty-clause-completed : goal.returns-then-is_empty-clause-completed
returns-then-is_empty-clause-completed c = λ rows counted.
    let office : Counted = record { live = c.self.inside.live; numbers = c.self.inside.numbers; keyed = c.self.inside.keyed; refused = c.self.inside.refused; entry = c.self.inside.entry.items } in
    let before : HasCounted office rows = subst (λ (o : Counted). HasCounted o rows) (sym c.self.view_is) counted in
    let after : Counted = record { live = c.take.new.self; numbers = c.self.inside.numbers; keyed = c.self.inside.keyed; refused = c.self.inside.refused; entry = c.keep_marks.new.entry.items } in
    subst (λ (o : Counted). entries_of_rows o.live.table (rows ++ c.args.row ∷ []) ≡ entries_of_rows o.live.table rows ++ entry_of c.args.row.line c.keep_marks.new.entry.items) c.self.view_is
    (row-completes office after c.args.row c.take.ensures.table c.take.ensures.taken c.take.ensures.line c.take.ensures.entry
    (c.keep_marks.ensures.marks ∙ ap whats_of c.given.ensures.value) rows before)

pub returns-then-is_empty-clause-number : goal.returns-then-is_empty-clause-number
returns-then-is_empty-clause-number c = λ rows counted.
    let office : Counted = record { live = c.self.inside.live; numbers = c.self.inside.numbers; keyed = c.self.inside.keyed; refused = c.self.inside.refused; entry = c.self.inside.entry.items } in
    let before : HasCounted office rows = subst (λ (o : Counted). HasCounted o rows) (sym c.self.view_is) counted in
    let after : Counted = record { live = c.take.new.self; numbers = c.self.inside.numbers; keyed = c.self.inside.keyed; refused = c.self.inside.refused; entry = c.keep_marks.new.entry.items } in
    subst (λ (o : Counted). numbered_after (entries_of_rows o.live.table rows) (entry_of c.args.row.line c.keep_marks.new.entry.items) ≡ []) c.self.view_is
    (row-unnumbered office after c.args.row c.take.ensures.table c.take.ensures.taken c.take.ensures.line c.take.ensures.entry
    (c.keep_marks.ensures.marks ∙ ap whats_of c.given.ensures.value) rows before (no_items c.keep_marks.new.entry (sym c.if-is_empty.true ∙ c.is_empty.ensures)))

pub returns-then-is_refused-clause-counted : goal.returns-then-is_refused-clause-counted
returns-then-is_refused-clause-counted c = λ rows counted.
    let office : Counted = record { live = c.self.inside.live; numbers = c.self.inside.numbers; keyed = c.self.inside.keyed; refused = c.self.inside.refused; entry = c.self.inside.entry.items } in
    let before : HasCounted office rows = subst (λ (o : Counted). HasCounted o rows) (sym c.self.view_is) counted in
    let after : Counted = record { live = c.take.new.self; numbers = c.count_on-number.new.numbers; keyed = c.self.inside.keyed; refused = c.self.inside.refused + 1; entry = c.keep_marks.new.entry.items } in
    row-spoken office after c.args.row c.take.ensures.table c.take.ensures.taken c.take.ensures.line c.take.ensures.entry
    (c.keep_marks.ensures.marks ∙ ap whats_of c.given.ensures.value) rows before (some_items c.keep_marks.new.entry (sym c.if-is_empty.false ∙ c.is_empty.ensures)) c.count_on-number.result
    (c.count_on-number.ensures.number ∙ next_is office rows before c.args.row.line c.line.result _ c.line.ensures c.count_on-number.ensures.below refl)
    true (ap is_refused (sym c.deref.ensures.value) ∙ sym c.is_refused.ensures ∙ c.if-is_refused.true)
    c.count_on-number.ensures.lines (subst (λ l. l < LINES) c.line.ensures c.count_on-number.ensures.below)
    (c.count_on-number.ensures.numbers ∙ ap (λ l. set c.self.inside.numbers l c.count_on-number.result) c.line.ensures)
    (sym (add-zero _)) refl

pub returns-then-is_refused-clause-completed : goal.returns-then-is_refused-clause-completed
returns-then-is_refused-clause-completed c = λ rows counted.
    let office : Counted = record { live = c.self.inside.live; numbers = c.self.inside.numbers; keyed = c.self.inside.keyed; refused = c.self.inside.refused; entry = c.self.inside.entry.items } in
    let before : HasCounted office rows = subst (λ (o : Counted). HasCounted o rows) (sym c.self.view_is) counted in
    let after : Counted = record { live = c.take.new.self; numbers = c.count_on-number.new.numbers; keyed = c.self.inside.keyed; refused = c.self.inside.refused + 1; entry = c.keep_marks.new.entry.items } in
    subst (λ (o : Counted). entries_of_rows o.live.table (rows ++ c.args.row ∷ []) ≡ entries_of_rows o.live.table rows ++ entry_of c.args.row.line c.keep_marks.new.entry.items) c.self.view_is
    (row-completes office after c.args.row c.take.ensures.table c.take.ensures.taken c.take.ensures.line c.take.ensures.entry
    (c.keep_marks.ensures.marks ∙ ap whats_of c.given.ensures.value) rows before)

pub returns-then-is_refused-clause-number : goal.returns-then-is_refused-clause-number
returns-then-is_refused-clause-number c = λ rows counted.
    let office : Counted = record { live = c.self.inside.live; numbers = c.self.inside.numbers; keyed = c.self.inside.keyed; refused = c.self.inside.refused; entry = c.self.inside.entry.items } in
    let before : HasCounted office rows = subst (λ (o : Counted). HasCounted o rows) (sym c.self.view_is) counted in
    let after : Counted = record { live = c.take.new.self; numbers = c.count_on-number.new.numbers; keyed = c.self.inside.keyed; refused = c.self.inside.refused + 1; entry = c.keep_marks.new.entry.items } in
    subst (λ (o : Counted). numbered_after (entries_of_rows o.live.table rows) (entry_of c.args.row.line c.keep_marks.new.entry.items) ≡ numbered_by c.args.row.line c.keep_marks.new.entry.items (Some c.count_on-number.result)) c.self.view_is
    (row-numbered office after c.args.row c.take.ensures.table c.take.ensures.taken c.take.ensures.line c.take.ensures.entry
    (c.keep_marks.ensures.marks ∙ ap whats_of c.given.ensures.value) rows before (some_items c.keep_marks.new.entry (sym c.if-is_empty.false ∙ c.is_empty.ensures)) c.count_on-number.result
    (c.count_on-number.ensures.number ∙ next_is office rows before c.args.row.line c.line.result _ c.line.ensures c.count_on-number.ensures.below refl))

pub returns-else-is_refused-clause-counted : goal.returns-else-is_refused-clause-counted
returns-else-is_refused-clause-counted c = λ rows counted.
    let office : Counted = record { live = c.self.inside.live; numbers = c.self.inside.numbers; keyed = c.self.inside.keyed; refused = c.self.inside.refused; entry = c.self.inside.entry.items } in
    let before : HasCounted office rows = subst (λ (o : Counted). HasCounted o rows) (sym c.self.view_is) counted in
    let after : Counted = record { live = c.take.new.self; numbers = c.count_on-number.new.numbers; keyed = c.self.inside.keyed + 1; refused = c.self.inside.refused; entry = c.keep_marks.new.entry.items } in
    row-spoken office after c.args.row c.take.ensures.table c.take.ensures.taken c.take.ensures.line c.take.ensures.entry
    (c.keep_marks.ensures.marks ∙ ap whats_of c.given.ensures.value) rows before (some_items c.keep_marks.new.entry (sym c.if-is_empty.false ∙ c.is_empty.ensures)) c.count_on-number.result
    (c.count_on-number.ensures.number ∙ next_is office rows before c.args.row.line c.line.result _ c.line.ensures c.count_on-number.ensures.below refl)
    false (ap is_refused (sym c.deref.ensures.value) ∙ sym c.is_refused.ensures ∙ c.if-is_refused.false)
    c.count_on-number.ensures.lines (subst (λ l. l < LINES) c.line.ensures c.count_on-number.ensures.below)
    (c.count_on-number.ensures.numbers ∙ ap (λ l. set c.self.inside.numbers l c.count_on-number.result) c.line.ensures)
    refl (sym (add-zero _))

pub returns-else-is_refused-clause-completed : goal.returns-else-is_refused-clause-completed
returns-else-is_refused-clause-completed c = λ rows counted.
    let office : Counted = record { live = c.self.inside.live; numbers = c.self.inside.numbers; keyed = c.self.inside.keyed; refused = c.self.inside.refused; entry = c.self.inside.entry.items } in
    let before : HasCounted office rows = subst (λ (o : Counted). HasCounted o rows) (sym c.self.view_is) counted in
    let after : Counted = record { live = c.take.new.self; numbers = c.count_on-number.new.numbers; keyed = c.self.inside.keyed + 1; refused = c.self.inside.refused; entry = c.keep_marks.new.entry.items } in
    subst (λ (o : Counted). entries_of_rows o.live.table (rows ++ c.args.row ∷ []) ≡ entries_of_rows o.live.table rows ++ entry_of c.args.row.line c.keep_marks.new.entry.items) c.self.view_is
    (row-completes office after c.args.row c.take.ensures.table c.take.ensures.taken c.take.ensures.line c.take.ensures.entry
    (c.keep_marks.ensures.marks ∙ ap whats_of c.given.ensures.value) rows before)

pub returns-else-is_refused-clause-number : goal.returns-else-is_refused-clause-number
returns-else-is_refused-clause-number c = λ rows counted.
    let office : Counted = record { live = c.self.inside.live; numbers = c.self.inside.numbers; keyed = c.self.inside.keyed; refused = c.self.inside.refused; entry = c.self.inside.entry.items } in
    let before : HasCounted office rows = subst (λ (o : Counted). HasCounted o rows) (sym c.self.view_is) counted in
    let after : Counted = record { live = c.take.new.self; numbers = c.count_on-number.new.numbers; keyed = c.self.inside.keyed + 1; refused = c.self.inside.refused; entry = c.keep_marks.new.entry.items } in
    subst (λ (o : Counted). numbered_after (entries_of_rows o.live.table rows) (entry_of c.args.row.line c.keep_marks.new.entry.items) ≡ numbered_by c.args.row.line c.keep_marks.new.entry.items (Some c.count_on-number.result)) c.self.view_is
    (row-numbered office after c.args.row c.take.ensures.table c.take.ensures.taken c.take.ensures.line c.take.ensures.entry
    (c.keep_marks.ensures.marks ∙ ap whats_of c.given.ensures.value) rows before (some_items c.keep_marks.new.entry (sym c.if-is_empty.false ∙ c.is_empty.ensures)) c.count_on-number.result
    (c.count_on-number.ensures.number ∙ next_is office rows before c.args.row.line c.line.result _ c.line.ensures c.count_on-number.ensures.below refl))
