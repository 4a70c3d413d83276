use Rattle.xb_pulse.proofs.Hearing.{open_record_heard, open_line_record_heard}
use Rattle.xb_pulse.proofs.laws.hears_so_far.Goals as goal

pub returns : goal.returns
returns c = record { one_line = open_record_heard; all_lines = open_line_record_heard }
