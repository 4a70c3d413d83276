use Rattle.xb_register.proofs.AtMost.{each_gives_at_most_one, gives_no_more}
use Rattle.xb_register.proofs.laws.gives_at_most_one.Goals as goal

pub returns-clause-each : goal.returns-clause-each
returns-clause-each c = each_gives_at_most_one

pub returns-clause-total : goal.returns-clause-total
returns-clause-total c = gives_no_more
