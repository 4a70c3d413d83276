use Rattle.csv.specs.Records.{fields_of}
use Rattle.xb_rows.proofs.RecordsLeft.{takes}
use Rattle.xb_rows.proofs.steps.take_record.Goals as goal

pub returns-in-Ok-clause-record : goal.returns-in-Ok-clause-record
returns-in-Ok-clause-record g c =
    let (trim, cfg, flexible, ready) = c.requires in
    let read = c.read_byte_record.new in
    takes g.R.Read.remaining c.args.reader.now read.self (fields_of read.row) c.in-Ok.found c.requires
    (c.in-Ok.ensures.reads trim ready)
