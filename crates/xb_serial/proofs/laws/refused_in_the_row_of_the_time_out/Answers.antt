use Rattle.xb_serial.proofs.WorkedRows.{refused_in_the_row}
use Rattle.xb_serial.proofs.laws.refused_in_the_row_of_the_time_out.Goals as goal

pub returns : goal.returns
returns c = refused_in_the_row
