use Rattle.std.proofs.Common.{refl, sym}
use Rattle.xb_worn.proofs.OtherCalls.{sends-without}
use Rattle.xb_worn.proofs.fault.faults_in.Goals as goal

pub returns-then-touch : goal.returns-then-touch
returns-then-touch c wear state digits = refl

pub returns-else-touch : goal.returns-else-touch
returns-else-touch c = sends-without c.args.number c.args.faults.now (sym c.if-touch.ensures)
