use Rattle.std.proofs.Common.{ap, sym, subst, Some, refl}
use Rattle.std.specs.Prelude.{IsSome}
use Rattle.xb_rows.specs.declared.scan.TheConstants.{MOST_RECORDS}
use Rattle.xb_rows.specs.Scanning.{rest_known}
use Rattle.xb_rows.proofs.RecordsLeft.{records_left-start}
use Rattle.xb_rows.proofs.csv_scan.CsvScan.new.Goals as goal

pub invariant_of-result : goal.invariant_of-result
invariant_of-result c =
    let new = c.reader_of_records in
    let start = records_left-start MOST_RECORDS (Some c.args.text.now) _ _ new.ensures.source new.ensures.state in
    (new.ensures.going, subst IsSome (sym start) refl)

pub returns : goal.returns
returns c =
    let new = c.reader_of_records in
    ap rest_known (records_left-start MOST_RECORDS (Some c.args.text.now) _ _ new.ensures.source new.ensures.state)
