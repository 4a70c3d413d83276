use Rattle.xb_serial.proofs.WorkedRows.{keyed_in_the_row}
use Rattle.xb_serial.proofs.laws.keyed_in_the_row_of_its_pause.Goals as goal

pub returns : goal.returns
returns c = keyed_in_the_row
