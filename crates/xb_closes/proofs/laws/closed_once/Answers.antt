use Rattle.xb_closes.proofs.FedRows.{rows_of-fed}
use Rattle.xb_closes.proofs.laws.closed_once.Goals as goal

pub returns : goal.returns
returns c = rows_of-fed
