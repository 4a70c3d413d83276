use Rattle.xb_csv.proofs.WrittenTimes.{sigrok_times_are_read}
use Rattle.xb_csv.proofs.laws.sigrok_times_are_read.Goals as goal

pub returns : goal.returns
returns c = sigrok_times_are_read
