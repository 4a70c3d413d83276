use Rattle.std.proofs.Common.{length, ap, arith, length-append}
use Rattle.csv.specs.Reading.{default_config, records, strip_bom}
use Rattle.xb_rows.specs.declared.scan.TheConstants.{MOST_RECORDS}
use Rattle.xb_rows.proofs.RestOfRecords.{few_rows}
use Rattle.xb_rows.proofs.rows.rows_of_text.Goals as goal

pub returns-clause-few : goal.returns-clause-few
returns-clause-few c =
    let few = few_rows MOST_RECORDS (records default_config (strip_bom c.args.text.now)) in
    let read = c.loop-rows in
    let whole = ap length read.invariant.rows in
    omega (arith, few, whole, length-append read.rows.items read.scan.rows)
