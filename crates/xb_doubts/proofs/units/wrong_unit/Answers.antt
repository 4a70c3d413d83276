use Rattle.std.proofs.Common.{sym}
use Rattle.std.proofs.lemmas.Bool.{cond-true}
use Rattle.xb_doubts.proofs.units.wrong_unit.Goals as goal

pub returns-then-are_seconds : goal.returns-then-are_seconds
returns-then-are_seconds c = sym (cond-true _ _ _ (sym c.if-are_seconds.ensures))
