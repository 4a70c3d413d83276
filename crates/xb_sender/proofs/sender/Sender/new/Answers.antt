use Rattle.xb_sender.proofs.Orders.{gives_marks, gives_one_entry_each}
use Rattle.xb_sender.proofs.sender.Sender.new.Goals as goal

pub returns-clause-marks : goal.returns-clause-marks
returns-clause-marks c = gives_marks

pub returns-clause-entries : goal.returns-clause-entries
returns-clause-entries c = gives_one_entry_each
