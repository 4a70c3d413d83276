use Rattle.std.proofs.Common.{ap, ◌∙◌, ◌+◌}
use Rattle.std.proofs.lemmas.Result.{err_from_is_err_and}
use Rattle.xb_rows.specs.Kept.{kept_fields}
use Rattle.xb_rows.specs.RowTexts.{row_of_fields}
use Rattle.xb_rows.specs.StreamRecords.{stream_left}
use Rattle.xb_rows.proofs.RowSteps.{no-row, too-many, wrong-row, right-row}
use Rattle.xb_rows.proofs.stream_steps.take_row.Goals as goal

pub returns-then-not-branch : goal.returns-then-not-branch
returns-then-not-branch g c =
    let none = rw c.if-not-branch.true at c.in_ok-take_record.ensures in
    let old = stream_left g.R.Read.remaining c.args.reader.now in
    let new = stream_left g.R.Read.remaining c.take_record.new.self in
    no-row c.args.most c.args.taken old new (kept_fields c.take_record.new.kept) none

pub returns-then-taken-most : goal.returns-then-taken-most
returns-then-taken-most g c =
    let more = rw c.if-not-branch.false at c.in_ok-take_record.ensures in
    let old = stream_left g.R.Read.remaining c.args.reader.now in
    let new = stream_left g.R.Read.remaining c.take_record.new.self in
    too-many c.args.most c.args.taken old new (kept_fields c.take_record.new.kept) more c.if-taken-most.true

pub returns-in_err-parse_row : goal.returns-in_err-parse_row
returns-in_err-parse_row g c =
    let more = rw c.if-not-branch.false at c.in_ok-take_record.ensures in
    let old = stream_left g.R.Read.remaining c.args.reader.now in
    let new = stream_left g.R.Read.remaining c.take_record.new.self in
    let kept = kept_fields c.take_record.new.kept in
    let wrong = c.in_err-parse_row.ensures ∙ ap (row_of_fields (c.args.taken + 1)) c.three_fields.ensures in
    let e = wrong-row c.args.most c.args.taken old new kept c.in_err-parse_row.field-0.0 more c.if-taken-most.false wrong in
    let returned = c.from_residual-in_err-parse_row in
    let p = err_from_is_err_and returned.result returned.ensures.1 in
    rw (p.1, p.2) e

pub returns : goal.returns
returns g c =
    let more = rw c.if-not-branch.false at c.in_ok-take_record.ensures in
    let old = stream_left g.R.Read.remaining c.args.reader.now in
    let new = stream_left g.R.Read.remaining c.take_record.new.self in
    let kept = kept_fields c.take_record.new.kept in
    right-row c.args.most c.args.taken old new kept c.in_ok-parse_row.field-0 more c.if-taken-most.false
    (c.in_ok-parse_row.ensures ∙ ap (row_of_fields (c.args.taken + 1)) c.three_fields.ensures)
