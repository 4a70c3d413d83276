use Rattle.xb_csv.proofs.WrittenSigrok.{sigrok_samples_are_read}
use Rattle.xb_csv.proofs.laws.sigrok_samples_are_read.Goals as goal

pub returns : goal.returns
returns c = sigrok_samples_are_read
