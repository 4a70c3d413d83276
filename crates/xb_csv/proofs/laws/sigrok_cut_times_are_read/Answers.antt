use Rattle.xb_csv.proofs.WrittenCutTimes.{sigrok_cut_times_are_read}
use Rattle.xb_csv.proofs.laws.sigrok_cut_times_are_read.Goals as goal

pub returns : goal.returns
returns c = sigrok_cut_times_are_read
