use Rattle.xb_csv.proofs.WrittenRows.{written_rows_are_read}
use Rattle.xb_csv.proofs.laws.written_rows_are_read.Goals as goal

pub returns : goal.returns
returns c = written_rows_are_read
