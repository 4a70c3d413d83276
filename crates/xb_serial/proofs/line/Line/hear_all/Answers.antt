use Rattle.std.proofs.Common.{sym, subst}
use Rattle.xb_model.specs.Tapes.{EndsAtLast}
use Rattle.xb_model.proofs.Entries.{marks_of-last}
use Rattle.xb_serial.proofs.line.Line.hear_all.Goals as goal

pub returns-in-Some-clause-entry : goal.returns-in-Some-clause-entry
returns-in-Some-clause-entry c = subst EndsAtLast (sym c.marks_of.ensures) (marks_of-last c.order_of.result)
