use Rattle.xb_laws.proofs.TraceRecords.{traces_are_recorded}
use Rattle.xb_laws.proofs.TraceTapes.{traces_make_the_tape}
use Rattle.xb_laws.proofs.laws.the_trace_makes_the_tape_of_its_rows.Goals as goal

pub returns-clause-is_recorded : goal.returns-clause-is_recorded
returns-clause-is_recorded c = traces_are_recorded

pub returns-clause-tape : goal.returns-clause-tape
returns-clause-tape c = traces_make_the_tape
