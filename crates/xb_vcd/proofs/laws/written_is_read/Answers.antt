use Rattle.xb_vcd.proofs.WrittenVcd.{written_is_read}
use Rattle.xb_vcd.proofs.laws.written_is_read.Goals as goal

pub returns : goal.returns
returns c = written_is_read
