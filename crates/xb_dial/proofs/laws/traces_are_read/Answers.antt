use Rattle.xb_dial.proofs.TraceLaws.{traces_are_read}
use Rattle.xb_dial.proofs.laws.traces_are_read.Goals as goal

pub returns : goal.returns
returns c = traces_are_read
