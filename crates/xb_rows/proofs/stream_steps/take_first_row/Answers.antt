use Rattle.std.proofs.lemmas.Result.{err_from_is_err_and}
use Rattle.xb_rows.specs.StreamRecords.{stream_left}
use Rattle.xb_rows.proofs.RowSteps.{no-header, first-row}
use Rattle.xb_rows.proofs.stream_steps.take_first_row.Goals as goal

pub returns-in_err-take_header : goal.returns-in_err-take_header
returns-in_err-take_header g c =
    let old = stream_left g.R.Read.remaining c.args.reader.now in
    let new = stream_left g.R.Read.remaining c.take_header.new.reader in
    let e = no-header c.args.most old new c.in_err-take_header.field-0.0 (c.in_err-take_header.ensures c.args.most) in
    let p = err_from_is_err_and c.from_residual.result c.from_residual.ensures.1 in
    rw (p.1, p.2) e

pub returns : goal.returns
returns g c =
    let old = stream_left g.R.Read.remaining c.args.reader.now in
    let middle = stream_left g.R.Read.remaining c.take_header.new.reader in
    let new = stream_left g.R.Read.remaining c.take_row.new.reader in
    first-row c.args.most old middle new c.take_row.result (c.in_ok-take_header.ensures c.args.most)
    c.take_row.ensures
