use Rattle.xb_contact.proofs.SeizedRuns.{keeps_all_time, leaves_all_at_zero, leaves_seizures}
use Rattle.xb_contact.proofs.laws.leaves_seizures.Goals as goal

pub returns-clause-time : goal.returns-clause-time
returns-clause-time c = keeps_all_time

pub returns-clause-long : goal.returns-clause-long
returns-clause-long c = leaves_seizures

pub returns-clause-zero : goal.returns-clause-zero
returns-clause-zero c = leaves_all_at_zero
