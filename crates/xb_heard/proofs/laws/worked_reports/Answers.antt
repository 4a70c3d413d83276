use Rattle.std.proofs.Common.{refl}
use Rattle.xb_model.specs.WorkedRows.{pulses, dial}
use Rattle.xb_heard.proofs.laws.worked_reports.Goals as goal

pub returns : goal.returns
unfolding pulses dial
returns c = record {
  good = refl;
  long_break = refl;
  split_break = refl;
  short_break = refl;
  short_make = refl;
  eleven_pulses = refl;
  at_the_limits = refl;
  not_ended = refl;
  two_attempts = refl;
  timed_out = refl;
  unfinished = refl;
  all_finished = refl;
}
