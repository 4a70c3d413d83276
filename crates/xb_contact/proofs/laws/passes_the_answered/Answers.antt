use Rattle.xb_contact.proofs.Rung.{passes_the_answered, rings_each_hold, seizes_the_answered}
use Rattle.xb_contact.proofs.RungRuns.{rings_all_time, rings_for_good}
use Rattle.xb_contact.proofs.laws.passes_the_answered.Goals as goal

pub returns-clause-whole : goal.returns-clause-whole
returns-clause-whole c = passes_the_answered

pub returns-clause-seized : goal.returns-clause-seized
returns-clause-seized c = seizes_the_answered

pub returns-clause-for_good : goal.returns-clause-for_good
returns-clause-for_good c = rings_for_good

pub returns-clause-time : goal.returns-clause-time
returns-clause-time c = rings_all_time

pub returns-clause-each : goal.returns-clause-each
returns-clause-each c = rings_each_hold
