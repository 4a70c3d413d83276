use Rattle.xb_pulse.proofs.Hearing.{record_heard, line_record_heard}
use Rattle.xb_pulse.proofs.laws.hears_the_record.Goals as goal

pub returns : goal.returns
returns c = record { one_line = record_heard; all_lines = line_record_heard }
