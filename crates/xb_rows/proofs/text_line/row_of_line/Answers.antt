use Rattle.std.proofs.Common.{◌+◌, [], drop, get_or, refl, sym, ap, ◌∙◌}
use Rattle.std.proofs.lemmas.List.{drop_all, drop_more}
use Rattle.xb_rows.specs.TextLines.{fields_with, row_said, some_row}
use Rattle.xb_rows.proofs.TextLines.{reads-copy, reads-field, reads-skip, takes-last, takes-none, takes-record}
use Rattle.xb_rows.proofs.text_line.row_of_line.Goals as goal
use Rattle.xb_rows.proofs.text_line.row_of_line.Goals.{in-Skip, in-Copy, in-EndField}

pub loop-byte-init : goal.loop-byte-init
loop-byte-init c = record { fields = []; field = []; reads = refl; says = refl; keeps = c.new-field.ensures }

pub returns-in-EndRecord : goal.returns-in-EndRecord
returns-in-EndRecord c =
    let l = c.loop-byte in
    let text = c.args.text.now in
    c.end.ensures
    ∙ ap (λ kept. some_row (row_said c.args.n (fields_with l.said kept))) c.deref-in-EndRecord.ensures.0
    ∙ takes-record c.args.n text l.state c.step-next.result.0 (get_or text l.byte-index 0) l.said l.field.items
    (drop l.byte-index text) (drop (l.byte-index + 1) text) (drop_more text l.byte-index 0 c.loop-byte-test.true) l.invariant
    (rw c.in-EndRecord.is at c.step-next.ensures)

pub loop-byte-preserved : goal.loop-byte-preserved
loop-byte-preserved c =
    let l = c.loop-byte in
    let text = c.args.text.now in
    let byte = get_or text l.byte-index 0 in
    let left = drop l.byte-index text in
    let rest = drop (l.byte-index + 1) text in
    let is = drop_more text l.byte-index 0 c.loop-byte-test.true in
    elim c.match-action.branch [
      | in-Skip w ↦
          rw (w.said-is, w.field-is)
          (reads-skip text l.state c.step-next.result.0 byte l.said l.said l.field.items l.field.items left rest is l.invariant
          (rw w.in-Skip.is at c.step-next.ensures))
      | in-Copy w ↦
          rw (w.said-is, w.field-is)
          (reads-copy text l.state c.step-next.result.0 byte l.said l.said l.field.items w.keep.new.field.items left rest is
          l.invariant (rw w.in-Copy.is at c.step-next.ensures) w.keep.ensures)
      | in-EndField w ↦
          rw (w.said-is, w.field-is)
          (reads-field text l.state c.step-next.result.0 byte l.said w.with-said.result l.field.items w.clear.new.self.items left
          rest is l.invariant (rw w.in-EndField.is at c.step-next.ensures)
          (w.with-said.ensures ∙ ap (fields_with l.said) w.deref.ensures.0) w.clear.ensures)
    ]

pub returns-then-ends_record : goal.returns-then-ends_record
returns-then-ends_record c =
    let l = c.loop-byte in
    let text = c.args.text.now in
    c.end-then-ends_record.ensures
    ∙ ap (λ kept. some_row (row_said c.args.n (fields_with l.said kept))) c.deref-then-ends_record.ensures.0
    ∙ takes-last c.args.n text l.state l.said l.field.items (drop l.byte-index text)
    (drop_all l.byte-index text c.loop-byte-test.false) l.invariant (sym c.if-ends_record.ensures)

pub returns-else-ends_record : goal.returns-else-ends_record
returns-else-ends_record c =
    let l = c.loop-byte in
    let text = c.args.text.now in
    takes-none c.args.n text l.state l.said l.field.items (drop l.byte-index text)
    (drop_all l.byte-index text c.loop-byte-test.false) l.invariant (sym c.if-ends_record.ensures)
