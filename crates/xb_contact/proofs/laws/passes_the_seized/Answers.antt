use Rattle.xb_contact.proofs.Seized.{passes_all_time, passes_each_hold, passes_for_good, passes_the_seized}
use Rattle.xb_contact.proofs.laws.passes_the_seized.Goals as goal

pub returns-clause-whole : goal.returns-clause-whole
returns-clause-whole c = passes_the_seized

pub returns-clause-for_good : goal.returns-clause-for_good
returns-clause-for_good c = passes_for_good

pub returns-clause-time : goal.returns-clause-time
returns-clause-time c = passes_all_time

pub returns-clause-each : goal.returns-clause-each
returns-clause-each c = passes_each_hold
