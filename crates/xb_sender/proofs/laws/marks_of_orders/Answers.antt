use Rattle.xb_sender.proofs.Orders.{gives_marks}
use Rattle.xb_sender.proofs.laws.marks_of_orders.Goals as goal

pub returns : goal.returns
returns c = gives_marks
