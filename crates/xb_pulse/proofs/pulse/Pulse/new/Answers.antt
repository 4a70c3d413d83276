use Rattle.xb_pulse.proofs.Hearing.{record_heard, open_record_heard, line_record_heard, open_line_record_heard}
use Rattle.xb_pulse.proofs.pulse.Pulse.new.Goals as goal

pub returns-clause-whole : goal.returns-clause-whole
returns-clause-whole c = record_heard c.args.limits

pub returns-clause-so_far : goal.returns-clause-so_far
returns-clause-so_far c = open_record_heard c.args.limits

pub returns-clause-each_whole : goal.returns-clause-each_whole
returns-clause-each_whole c = line_record_heard c.args.limits

pub returns-clause-each_so_far : goal.returns-clause-each_so_far
returns-clause-each_so_far c = open_line_record_heard c.args.limits
