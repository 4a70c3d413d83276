use Rattle.std.proofs.Common.{Some, ap, sym, subst, refl, ◌∙◌}
use Rattle.std.specs.Prelude.{IsSome}
use Rattle.csv.specs.Reading.{default_config, records}
use Rattle.csv.specs.Records.{fields_of}
use Rattle.xb_rows.specs.Scanning.{text_left}
use Rattle.xb_rows.proofs.PlainSteps.{records-begin, records-start, resumed-going, resumed-rest}
use Rattle.xb_rows.proofs.csv_scan.CsvScan.after.Goals as goal

pub invariant_of-result : goal.invariant_of-result
invariant_of-result c =
    let fresh = c.reader_of_records-reader in
    let start = records-start _ _ c.args.text.now fresh.ensures.source fresh.ensures.state in
    let read = c.take_record-again in
    rw c.place_resumed-place.ensures
    (resumed-going read.new.reader c.args.taken read.result (text_left fresh.result) (text_left read.new.reader)
    (fields_of read.new.fields) (subst IsSome (sym start) refl) read.ensures.record read.ensures.going)

pub returns : goal.returns
returns c = λ fields rest begins.
    let fresh = c.reader_of_records-reader in
    let start = records-start _ _ c.args.text.now fresh.ensures.source fresh.ensures.state in
    let known = start ∙ ap (λ bytes. Some (records default_config bytes)) begins.0
    ∙ ap (λ all. Some all) (records-begin c.args.text.now fields rest begins) in
    let read = c.take_record-again in
    rw c.place_resumed-place.ensures
    (resumed-rest c.args.taken read.result (text_left fresh.result) (text_left read.new.reader)
    (fields_of read.new.fields) fields rest known read.ensures.record)
