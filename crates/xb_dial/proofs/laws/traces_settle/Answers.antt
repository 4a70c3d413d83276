use Rattle.xb_dial.proofs.TraceLaws.{traces_are_the_rows, traces_settle}
use Rattle.xb_dial.proofs.laws.traces_settle.Goals as goal

pub returns-clause-settled : goal.returns-clause-settled
returns-clause-settled c = traces_settle

pub returns-clause-told : goal.returns-clause-told
returns-clause-told c = traces_are_the_rows
