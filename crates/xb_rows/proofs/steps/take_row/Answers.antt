use Rattle.std.proofs.Common.{ap, false, true, ◌∙◌, ◌+◌}
use Rattle.std.proofs.lemmas.Result.{err_from_is_err_and}
use Rattle.csv.specs.Records.{fields_of}
use Rattle.xb_rows.specs.RowTexts.{row_of_fields, three_fields}
use Rattle.xb_rows.specs.Scanning.{records_left}
use Rattle.xb_rows.proofs.RowSteps.{no-row, read-whole, right-row, too-many, wrong-row}
use Rattle.xb_rows.proofs.steps.take_row.Goals as goal

pub returns-then-not-branch-clause-row : goal.returns-then-not-branch-clause-row
returns-then-not-branch-clause-row g c =
    let none = rw c.if-not-branch.true at c.in_ok-take_record.ensures.record in
    let old = records_left g.R.Read.remaining c.args.reader.now in
    let new = records_left g.R.Read.remaining c.take_record.new.reader in
    let fields = fields_of c.take_record.new.fields in
    no-row c.args.most c.args.taken old new (three_fields fields) (read-whole old new fields false none)

pub returns-then-taken-most-clause-row : goal.returns-then-taken-most-clause-row
returns-then-taken-most-clause-row g c =
    let more = rw c.if-not-branch.false at c.in_ok-take_record.ensures.record in
    let old = records_left g.R.Read.remaining c.args.reader.now in
    let new = records_left g.R.Read.remaining c.take_record.new.reader in
    let fields = fields_of c.take_record.new.fields in
    too-many c.args.most c.args.taken old new (three_fields fields) (read-whole old new fields true more) c.if-taken-most.true

pub returns-in_err-parse_row-clause-row : goal.returns-in_err-parse_row-clause-row
returns-in_err-parse_row-clause-row g c =
    let more = rw c.if-not-branch.false at c.in_ok-take_record.ensures.record in
    let old = records_left g.R.Read.remaining c.args.reader.now in
    let new = records_left g.R.Read.remaining c.take_record.new.reader in
    let fields = fields_of c.take_record.new.fields in
    let wrong = c.in_err-parse_row.ensures ∙ ap (row_of_fields (c.args.taken + 1)) c.three_fields.ensures in
    let e = wrong-row c.args.most c.args.taken old new (three_fields fields) c.in_err-parse_row.field-0.0
    (read-whole old new fields true more) c.if-taken-most.false wrong in
    let returned = c.from_residual-in_err-parse_row in
    let p = err_from_is_err_and returned.result returned.ensures.1 in
    rw (p.1, p.2) e

pub returns-clause-row : goal.returns-clause-row
returns-clause-row g c =
    let more = rw c.if-not-branch.false at c.in_ok-take_record.ensures.record in
    let old = records_left g.R.Read.remaining c.args.reader.now in
    let new = records_left g.R.Read.remaining c.take_record.new.reader in
    let fields = fields_of c.take_record.new.fields in
    right-row c.args.most c.args.taken old new (three_fields fields) c.in_ok-parse_row.field-0
    (read-whole old new fields true more) c.if-taken-most.false
    (c.in_ok-parse_row.ensures ∙ ap (row_of_fields (c.args.taken + 1)) c.three_fields.ensures)
