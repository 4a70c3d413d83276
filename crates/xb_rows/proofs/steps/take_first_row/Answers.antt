use Rattle.std.proofs.lemmas.Result.{err_from_is_err_and}
use Rattle.xb_rows.specs.Scanning.{records_left}
use Rattle.xb_rows.proofs.RowSteps.{no-header, first-row}
use Rattle.xb_rows.proofs.steps.take_first_row.Goals as goal

pub returns-in_err-take_header-clause-row : goal.returns-in_err-take_header-clause-row
returns-in_err-take_header-clause-row g c =
    let old = records_left g.R.Read.remaining c.args.reader.now in
    let new = records_left g.R.Read.remaining c.take_header.new.reader in
    let e = no-header c.args.most old new c.in_err-take_header.field-0.0 (c.in_err-take_header.ensures.header c.args.most) in
    let p = err_from_is_err_and c.from_residual.result c.from_residual.ensures.1 in
    rw (p.1, p.2) e

pub returns-clause-row : goal.returns-clause-row
returns-clause-row g c =
    let old = records_left g.R.Read.remaining c.args.reader.now in
    let middle = records_left g.R.Read.remaining c.take_header.new.reader in
    let new = records_left g.R.Read.remaining c.take_row.new.reader in
    first-row c.args.most old middle new c.take_row.result (c.in_ok-take_header.ensures.header c.args.most)
    c.take_row.ensures.row
