use Rattle.xb_register.proofs.Attempts.{gives_outcomes}
use Rattle.xb_register.proofs.AtMost.{each_gives_at_most_one, gives_no_more, gives_none_before}
use Rattle.xb_register.proofs.register.Register.new.Goals as goal

pub returns-clause-outcomes : goal.returns-clause-outcomes
returns-clause-outcomes c = gives_outcomes c.args.plan

pub returns-clause-each : goal.returns-clause-each
returns-clause-each c = each_gives_at_most_one c.args.plan

pub returns-clause-total : goal.returns-clause-total
returns-clause-total c = gives_no_more c.args.plan

pub returns-clause-none_before : goal.returns-clause-none_before
returns-clause-none_before c = gives_none_before c.args.plan
